use Rattle.std.proofs.Common.{ℕ, ◌++◌, arith, rules, length-append, length-take}
use Rattle.outside.proofs.ReadLaws.{reads_more}
use Rattle.outside.proofs.reading.read_text.Goals as goal

-- what was read before the piece, and the piece
pub returns-in_err-read_piece-clause-prefix : goal.returns-in_err-read_piece-clause-prefix
returns-in_err-read_piece-clause-prefix g c =
    let told = c.in_err-read_piece.ensures.piece in (
      c.loop-text.text.items ++ told.0,
      omega (arith, told.1, length-append c.loop-text.text.items told.0, length-take {A = ℕ}),
      reads_more _ _ _ _ _ c.loop-text.invariant.read told.2,
      search rules,
    )
