pub mod SharedTicks
