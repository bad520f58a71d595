use Rattle.std.proofs.Common.{sym, ◌∙◌, arith, length-append}
use Rattle.least.proofs.Noting.{noted_more, noted_same, row_done}
use Rattle.least.proofs.pairs.note_named.Goals as goal
use Rattle.least.proofs.pairs.note_named.Goals.{then-names, else-names}

pub loop-k-preserved : goal.loop-k-preserved
loop-k-preserved c =
    elim c.if-names.branch [
      | then-names w ↦ rw (w.pairs-is, w.note_both.ensures)
          (simp length-append (omega arith), noted_more _ _ _ _ c.requires.i c.loop-k-test.true (sym c.names.ensures ∙ w.if-names.true) c.loop-k.invariant.1)
      | else-names w ↦ rw w.pairs-is (omega arith, noted_same _ _ _ _ (sym c.names.ensures ∙ w.if-names.false) c.loop-k.invariant.1)
    ]

pub returns-clause-pairs : goal.returns-clause-pairs
returns-clause-pairs c = row_done _ _ _ _ (omega arith) c.loop-k.invariant.1
