mod CountLaws
mod IndexLaws
mod ItemLaws
mod KeptLaws
mod PlaceLaws
mod RestLaws
mod SlotLaws
mod WrittenAgain
pub mod EffectLaws
