use Rattle.std.proofs.Common.{◌≡◌, ◌<◌, ◌≤◌, length, get_or, refl, sym, ap, ◌∙◌, rules}
use Rattle.std.proofs.lemmas.List.{get_or_past}
use Rattle.std.proofs.lemmas.List.Recursion.{and_at}
use Rattle.register.specs.Keys.{each}
use Rattle.design.specs.declared.line.Line.{Line}
use Rattle.design.specs.Lines.{no_line, line_kept}
use Rattle.sheet.specs.Sheets.{lines_of}
use Rattle.sheet.proofs.Laying.{sheet-back, laid_past, still_kept}
use Rattle.sheet.proofs.sheet.tried.SheetLines.put_at.Goals as goal

pub returns-in_default-clause-back : goal.returns-in_default-clause-back
returns-in_default-clause-back c =
    let s = c.args.self.now in
    let past : length (lines_of s) ≤ c.args.place = search rules in
    λ t again. sheet-back s s t c.args.place c.args.size 0 (laid_past s c.args.place c.args.size past) (sym (ap (λ (l : Line). l.laid) (get_or_past (lines_of s) c.args.place no_line past))) again

pub put-requires-clause-kept : goal.put-requires-clause-kept
put-requires-clause-kept c =
    let ls = lines_of c.args.self.now in
    let inside : c.args.place < length ls = search rules in
    let is : c.in-Some.line ≡ get_or ls c.args.place no_line = search rules in
    still_kept c.in-Some.line c.args.size (ap line_kept is ∙ and_at (each line_kept) line_kept refl (λ _ _. refl) ls c.args.place no_line inside c.args.self.now.limits) c.if-size-le-LARGEST_SIZE.true

pub returns-then-size-le-LARGEST_SIZE-clause-back : goal.returns-then-size-le-LARGEST_SIZE-clause-back
returns-then-size-le-LARGEST_SIZE-clause-back c = λ t again. sheet-back _ _ t _ c.args.size _ (search rules) (search rules) again

pub returns-else-size-le-LARGEST_SIZE-clause-back : goal.returns-else-size-le-LARGEST_SIZE-clause-back
returns-else-size-le-LARGEST_SIZE-clause-back c = λ t again. sheet-back _ _ t _ c.args.size _ (search rules) (search rules) again
