use Rattle.std.proofs.Common.{◌++◌, [], ◌∷◌, length, take, sym, ap, ◌∙◌, subst, arith, rules}
use Rattle.std.proofs.lemmas.List.{take_more, take_all, flat_map_more}
use Rattle.std.proofs.lemmas.List.Folds.{length-flat_map-take}
use Rattle.design.specs.Lines.{no_line}
use Rattle.writer.specs.Putting.{Puts}
use Rattle.writer.specs.Writing.{line_bytes, lines_bytes, over}
use Rattle.writer.proofs.Puts.{both}
use Rattle.writer.proofs.Written.{record_is}
use Rattle.writer.proofs.put_record.Goals as goal

pub put_line-requires : goal.put_line-requires
put_line-requires c =
    omega (arith, length-flat_map-take line_bytes c.args.lines.now c.loop-line.line-index no_line c.loop-line-test.true, ap length c.hull_bytes.ensures)

pub loop-line-preserved : goal.loop-line-preserved
loop-line-preserved c =
    let ls = c.args.lines.now in
    let i = c.loop-line.line-index in
    subst (Puts c.put.new.self c.put_line.new.self) (flat_map_more line_bytes [] (take i ls) _ ∙ ap lines_bytes (sym (take_more ls i no_line c.loop-line-test.true)))
    (both c.loop-line.invariant c.put_line.ensures)

pub returns : goal.returns
returns c =
    let ls = c.args.lines.now in
    let all = take_all c.loop-line.line-index ls c.loop-line-test.false in
    search rules ∙ (both (both c.put.ensures c.loop-line.invariant) c.put-2.ensures).out
    ∙ ap (over c.args.out.now 0) ((λ i. (c.hull_bytes.ensures i ++ lines_bytes (all i)) ++ (c.from.ensures i ∷ [])) ∙ sym (record_is c.args.hull ls))
