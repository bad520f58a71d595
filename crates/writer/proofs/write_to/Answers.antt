use Rattle.std.proofs.Common.{length, Some, ◌∙◌, sym, refl, rules}
use Rattle.sheet.specs.Sheets.{contents}
use Rattle.writer.specs.Writing.{record_of, recorded}
use Rattle.writer.proofs.Puts.{part-over}
use Rattle.writer.proofs.Written.{record_same, too_few, enough}
use Rattle.writer.proofs.write_to.Goals as goal

pub returns-then-saturating_sub-count : goal.returns-then-saturating_sub-count
returns-then-saturating_sub-count c =
    let has = sym c.in_ok-hull.ensures.ok_part ∙ c.hull.ensures in
    record {
      answers = too_few (contents c.args.sheet.now) c.in_ok-hull.hull c.lines-lines.result.now has c.lines-lines.ensures (length c.args.out.now) c.args.place _ c.record_length-count.ensures _ (search rules) (search rules);
      leaves = refl;
    }

pub returns : goal.returns
returns c =
    let sheet = contents c.args.sheet.now in
    let lines = c.lines-lines.result.now in
    let has = sym c.in_ok-hull.ensures.ok_part ∙ c.hull.ensures in
    let same = record_same sheet c.in_ok-hull.hull lines has c.lines-lines.ensures in
    record {
      answers = enough sheet c.in_ok-hull.hull lines has c.lines-lines.ensures (length c.args.out.now) c.args.place _ c.record_length-count.ensures (search rules);
      leaves = search (rules, part-over c.args.out.now (record_of (Some c.in_ok-hull.hull) lines) (recorded sheet) c.put_record.new.out c.args.place same);
    }
