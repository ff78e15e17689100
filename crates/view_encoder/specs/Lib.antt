pub use Rattle.view_counts.specs.Settled
