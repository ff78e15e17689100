pub mod Live
pub use Rattle.instance_table.specs.Table
pub use Rattle.command_laws.specs.Later
