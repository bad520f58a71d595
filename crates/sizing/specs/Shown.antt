-- What is printed of a reply, and of a fault.
use Rattle.std.specs.Prelude.{ℕ, List, ◌++◌, codes}
use Rattle.terms.specs.Grounds.{refusal_text}
use Rattle.words.specs.Forms.{expected}
use Rattle.needs.specs.Shown.{need_text}
use Rattle.sizing.specs.declared.fault.Fault.{Fault}
use Rattle.sizing.specs.declared.fault.Fault.TheVariants.{Refused, Missing, Expected}
use Rattle.sizing.specs.declared.reply.Reply.{Reply}
use Rattle.sizing.specs.declared.reply.Reply.TheVariants.{Noted, Needs}

abbrev pub reply_text : Reply → List ℕ
reply_text Noted = codes "noted"
reply_text (Needs n) = need_text n

abbrev pub fault_text : Fault → List ℕ
fault_text (Refused e) = refusal_text e
fault_text (Missing f) = codes "expected before it: " ++ expected f
fault_text (Expected f) = codes "expected " ++ expected f
