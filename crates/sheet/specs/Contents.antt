-- What a sheet holds, as the crate of designs defines it.
pub use Rattle.design.specs.Contents.{Contents, new_sheet, with_lines, with_hull, unsettled}
