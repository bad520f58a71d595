use Rattle.std.proofs.Common.{◌≡◌, ℕ, List, length, codes, ap, sym, rules, arith}
use Rattle.std.proofs.lemmas.Slice.Eq.{HasBytesAt, text_from_reads}
use Rattle.words.specs.Forms.{form_of}
use Rattle.words.proofs.form.FormFromRefSliceU8.from.Goals as goal

spelled : (word text : List ℕ) → length word ≡ length text → HasBytesAt word 0 text → form_of text ≡ form_of word
spelled word text long reads = sym (ap form_of (text_from_reads word text long reads))

pub returns-in-plates : goal.returns-in-plates
returns-in-plates c = spelled c.args.word.now (codes "plates") (omega arith) (search rules)

pub returns-in-stiffeners : goal.returns-in-stiffeners
returns-in-stiffeners c = spelled c.args.word.now (codes "stiffeners") (omega arith) (search rules)

pub returns-in-enter : goal.returns-in-enter
returns-in-enter c = spelled c.args.word.now (codes "enter") (omega arith) (search rules)
