-- What a reading call gives of what the bytes are.
use Rattle.std.specs.Prelude.{◌≡◌, Result, Ok, Err, IsOk}
use Rattle.frame_model.specs.declared.fault.FrameFault.{FrameFault}
use Rattle.frame_model.specs.declared.fault.FrameFault.TheVariants.{Memory}

-- exactly the frame that bytes are, or their fault; or out of memory where they are a frame
abbrev pub GivesFrame : {A : Type 0} → Result A FrameFault → Result A FrameFault → Type 0
GivesFrame (Ok frame) there = there ≡ Ok frame
GivesFrame (Err Memory) there = IsOk there
GivesFrame (Err f) there = there ≡ Err f
