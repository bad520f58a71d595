use Rattle.std.proofs.Common.{◌≡◌, ℕ, ◌<◌, None, get_or, refl, ap, sym, ◌∙◌, lit<, rules, arith}
use Rattle.std.specs.Option.{option_map}
use Rattle.words.specs.Numbers.{numbers_of}
use Rattle.words.specs.Statements.{entry_limits, entry_of}
use Rattle.words.proofs.Bounds.{over_limit, within_limits}
use Rattle.words.proofs.read_entry.Goals as goal
use Rattle.words.proofs.read_entry.Goals.{In_ok-mark}

refused : (c : In_ok-mark) (k : ℕ) → k < 11 → get_or entry_limits k 0 < get_or c.in_ok-mark.field-0 k 0 → None ≡ option_map entry_of (numbers_of entry_limits c.args.words)
refused c k inside high =
    sym (ap (option_map entry_of) (over_limit entry_limits c.args.words c.in_ok-mark.field-0 refl c.in_ok-mark.ensures k inside high))

pub returns-in_err-narrowed-2 : goal.returns-in_err-narrowed-2
returns-in_err-narrowed-2 c =
    let high = c.in_err-narrowed-2.ensures in
    c.from_residual-in_err-narrowed-2.ensures ∙ refused (goal.at.returns-in_err-narrowed-2 c).In_ok-mark 2 (lit< tt) (omega arith)

pub returns-in_err-narrowed-3 : goal.returns-in_err-narrowed-3
returns-in_err-narrowed-3 c =
    let high = c.in_err-narrowed-3.ensures in
    c.from_residual-in_err-narrowed-3.ensures ∙ refused (goal.at.returns-in_err-narrowed-3 c).In_ok-mark 7 (lit< tt) (omega arith)

pub returns : goal.returns
returns c =
    let kind = c.in_ok-narrowed.ensures in
    let place = c.in_ok-narrowed-2.ensures in
    let pressure = c.in_ok-narrowed-3.ensures in
    let read = within_limits entry_limits c.args.words c.in_ok-mark.field-0 refl c.in_ok-mark.ensures (search rules) in
    simp (kind.1, place.1, pressure.1) (sym (ap (option_map entry_of) read))
