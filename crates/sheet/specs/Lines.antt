-- The lines of a sheet, as the crate of designs defines them.
pub use Rattle.design.specs.Lines.{no_line, mark_of, line_of, entered_as, amended_as, laid_as, unscheduled}
