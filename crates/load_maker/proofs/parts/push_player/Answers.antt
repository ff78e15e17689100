use Rattle.load_maker.specs.Generated.{card_made, hand_made, row_made}
use Rattle.load_maker.proofs.Pushed.{three_joined}
use Rattle.load_maker.proofs.parts.push_player.Goals as goal

pub returns : goal.returns
returns c =
    let i = c.args.client in
    three_joined c.push_card.result c.args.events.now c.push_row.new.events c.push_hand.new.events c.push_card.new.events (row_made i) (hand_made i) (card_made i)
    c.in_ok-push_row.ensures c.in_ok-push_hand.ensures c.push_card.ensures
