-- What a sheet keeps with other lines over the same places.
use Rattle.std.proofs.Common.{◌≡◌, ◌-◌, ◌≤◌, true, List, length, drop, replicate, ap, ◌∙◌, arith}
use Rattle.register.specs.Keys.{climbs, each}
use Rattle.register.specs.Registers.{elements_of, room_of, SamePlaces, Tidy}
use Rattle.design.specs.declared.line.Line.{Line}
use Rattle.design.specs.Lines.{no_line, mark_of, line_kept, hull_kept}
use Rattle.sheet.specs.declared.sheet.Sheet.{Sheet}

-- lines that rise by their marks and keep the limits
abbrev pub Orderly : List Line → Type 0
Orderly ls = (climbs mark_of 0 ls ≡ true) × (each line_kept ls ≡ true)

-- its count fits, and its free places are vacant
pub tidy : (s : Sheet) → Tidy no_line s.lines
tidy s = record { fits = s.fits; rest = s.rest }

pub still_sheet : (s : Sheet) {q : _} (ls : List Line) → SamePlaces s.lines q → (Tidy no_line s.lines → Tidy no_line q) → elements_of q ≡ ls → Orderly ls
    → record { fits : q.count ≤ length q.slots.now; rest : drop q.count q.slots.now ≡ replicate (length q.slots.now - q.count) no_line; small : room_of q ≤ 96; climbing : climbs mark_of 0 (elements_of q) ≡ true; proper : hull_kept s.hull ≡ true; limits : each line_kept (elements_of q) ≡ true }
still_sheet s ls places still is orderly = record {
  fits = (still (tidy s)).fits;
  rest = (still (tidy s)).rest;
  small = omega (arith, places.room, s.small);
  climbing = ap (climbs mark_of 0) is ∙ orderly.0;
  proper = s.proper;
  limits = ap (each line_kept) is ∙ orderly.1;
}
