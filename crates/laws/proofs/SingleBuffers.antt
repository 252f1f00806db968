-- ONE OUTCOME of what is lent: what two outcomes of one call leave in a buffer, in the machine or in the memory is the same, by the contract that the code carries.
-- Assumes nothing.
use Prim.Native.Nat.{ℕ}
use mathlib.Core.Path.{sym, ◌∙◌}
use mathlib.Core.List.{List}
use Rattle.std.specs.Prelude.{Option}
use Rattle.texts.proofs.put_words.Kinds as texts-put-words-kinds
use Rattle.texts.proofs.put_words.Reads as texts-put-words
use Rattle.lines.proofs.store.Kinds as lines-store-kinds
use Rattle.lines.proofs.store.Reads as lines-store
use Rattle.lines.proofs.store_element.Kinds as lines-store-element-kinds
use Rattle.lines.proofs.store_element.Reads as lines-store-element
use Rattle.lines.proofs.set_vector.Kinds as lines-set-vector-kinds
use Rattle.lines.proofs.set_vector.Reads as lines-set-vector
use Rattle.texts.proofs.add.Kinds as texts-add-kinds
use Rattle.texts.proofs.add.Reads as texts-add
use Rattle.texts.proofs.add_hex.Kinds as texts-add-hex-kinds
use Rattle.texts.proofs.add_hex.Reads as texts-add-hex
use Rattle.texts.proofs.put_words.Kinds as texts-put-words-kinds
use Rattle.texts.proofs.put_words.Reads as texts-put-words
use Rattle.texts.proofs.ReportLine.put.Kinds as texts-report-line-kinds
use Rattle.texts.proofs.ReportLine.put.Reads as texts-report-line
use Rattle.texts.proofs.VectorLine.put.Kinds as texts-vector-line-kinds
use Rattle.texts.proofs.VectorLine.put.Reads as texts-vector-line
use Rattle.texts.proofs.GeneralLine.put.Kinds as texts-general-line-kinds
use Rattle.texts.proofs.GeneralLine.put.Reads as texts-general-line
use Rattle.reading.proofs.words.Kinds as reading-words-kinds
use Rattle.reading.proofs.words.Reads as reading-words
use Rattle.states.proofs.state_of.Kinds as states-state-of-kinds
use Rattle.states.proofs.state_of.Reads as states-state-of
use Rattle.control.proofs.control.Kinds as control-control-kinds
use Rattle.control.proofs.control.Reads as control-control
use Rattle.effects.proofs.effect.Kinds as effects-effect-kinds
use Rattle.effects.proofs.effect.Reads as effects-effect
use Rattle.machine.proofs.Machine.run.Kinds as machine-run-kinds
use Rattle.machine.proofs.Machine.run.Reads as machine-run
use Rattle.machine.proofs.Machine.step.Kinds as machine-step-kinds
use Rattle.machine.proofs.Machine.step.Reads as machine-step
use Rattle.control.specs.declared.orders.Order.{Order}
use Rattle.control.specs.declared.answers.Answer.{Answer}
use Rattle.std.specs.Prelude.{Option, Result}
use Rattle.control.specs.Orders.{Controls}
use Rattle.decode.specs.declared.Decoded.{Decoded}
use Rattle.effects.specs.Effects.{Held}
use Rattle.machine.specs.declared.walk.Report.{Report}
use Rattle.machine.specs.declared.Machine.{Machine}
use Rattle.machine.specs.Runs.{Out, Gives}
use Rattle.reading.specs.Words.{Fills}
use Rattle.texts.specs.Writing.{Adds}
use Rattle.laws.specs.Single.{OneLeft, left_of}
use Rattle.laws.proofs.Outcome.{one_outcome, one_general}

-- what the predicates of the contracts speak of
abbrev text_of : {before : List ℕ} {at : ℕ} {text : List ℕ} {result : ℕ} {after : List ℕ} → Adds before at text result after → List ℕ
text_of {after = after} p = after

abbrev words_of : {bytes before : List ℕ} {r : Option ℕ} {after : List ℕ} → Fills bytes before r after → List ℕ
words_of {after = after} p = after

abbrev general_of : {w : Decoded} {g : List ℕ} {base len : ℕ} {r : Result Order Answer} {after : List ℕ} → Controls w g base len r after → List ℕ
general_of {after = after} p = after

-- the machine and the memory
abbrev machine_of : {o : Out} {r : Report} {machine : Machine} {memory : List ℕ} → Gives o r machine memory → Machine
machine_of {machine = machine} p = machine

abbrev memory_of : {o : Out} {r : Report} {machine : Machine} {memory : List ℕ} → Gives o r machine memory → List ℕ
memory_of {memory = memory} p = memory

pub left_lines-store : OneLeft 1 lines-store-kinds.ps lines-store-kinds.r lines-store.Post (List ℕ) (λ κs a x s p. left_of p)
left_lines-store κs a x y s t p q = p ∙ sym q

pub left_lines-store_element : OneLeft 1 lines-store-element-kinds.ps lines-store-element-kinds.r lines-store-element.Post (List ℕ) (λ κs a x s p. left_of p)
left_lines-store_element κs a x y s t p q = p ∙ sym q

pub left_lines-set_vector : OneLeft 1 lines-set-vector-kinds.ps lines-set-vector-kinds.r lines-set-vector.Post (List ℕ) (λ κs a x s p. left_of p)
left_lines-set_vector κs a x y s t p q = p ∙ sym q

pub left_texts-add : OneLeft 2 texts-add-kinds.ps texts-add-kinds.r texts-add.Post (List ℕ) (λ κs a x s p. text_of p.0)
left_texts-add κs a x y s t p q = p.0.buffer ∙ sym q.0.buffer

pub left_texts-add_hex : OneLeft 2 texts-add-hex-kinds.ps texts-add-hex-kinds.r texts-add-hex.Post (List ℕ) (λ κs a x s p. text_of p)
left_texts-add_hex κs a x y s t p q = p.buffer ∙ sym q.buffer

pub left_texts-put_words : OneLeft 2 texts-put-words-kinds.ps texts-put-words-kinds.r texts-put-words.Post (List ℕ) (λ κs a x s p. left_of p.0)
left_texts-put_words κs a x y s t p q = p.0 ∙ sym q.0

pub left_texts-report_line : OneLeft 1 texts-report-line-kinds.ps texts-report-line-kinds.r texts-report-line.Post (List ℕ) (λ κs a x s p. text_of p.0)
left_texts-report_line κs a x y s t p q = p.0.buffer ∙ sym q.0.buffer

pub left_texts-vector_line : OneLeft 1 texts-vector-line-kinds.ps texts-vector-line-kinds.r texts-vector-line.Post (List ℕ) (λ κs a x s p. text_of p.0)
left_texts-vector_line κs a x y s t p q = p.0.buffer ∙ sym q.0.buffer

pub left_texts-general_line : OneLeft 1 texts-general-line-kinds.ps texts-general-line-kinds.r texts-general-line.Post (List ℕ) (λ κs a x s p. text_of p.0)
left_texts-general_line κs a x y s t p q = p.0.buffer ∙ sym q.0.buffer

pub left_reading-words : OneLeft 2 reading-words-kinds.ps reading-words-kinds.r reading-words.Post (List ℕ) (λ κs a x s p. words_of p.0)
left_reading-words κs a x y s t p q = p.0.code ∙ sym q.0.code

pub left_states-state_of : OneLeft 1 states-state-of-kinds.ps states-state-of-kinds.r states-state-of.Post (List ℕ) (λ κs a x s p. left_of p)
left_states-state_of κs a x y s t p q = p ∙ sym q

pub left_control-control : OneLeft 1 control-control-kinds.ps control-control-kinds.r control-control.Post (List ℕ) (λ κs a x s p. general_of p)
left_control-control κs a x y s t p q = one_general _ _ _ _ _ _ _ _ p q

pub left_effects-effect : OneLeft 2 effects-effect-kinds.ps effects-effect-kinds.r effects-effect.Post Held (λ κs a x s p. left_of p)
left_effects-effect κs a x y s t p q = p ∙ sym q

pub left_run_machine : OneLeft 2 machine-run-kinds.ps machine-run-kinds.r machine-run.Post Machine (λ κs a x s p. machine_of p)
left_run_machine κs a x y s t p q = (one_outcome p q).1

pub left_run_memory : OneLeft 2 machine-run-kinds.ps machine-run-kinds.r machine-run.Post (List ℕ) (λ κs a x s p. memory_of p)
left_run_memory κs a x y s t p q = (one_outcome p q).2

pub left_step_machine : OneLeft 2 machine-step-kinds.ps machine-step-kinds.r machine-step.Post Machine (λ κs a x s p. machine_of p)
left_step_machine κs a x y s t p q = (one_outcome p q).1

pub left_step_memory : OneLeft 2 machine-step-kinds.ps machine-step-kinds.r machine-step.Post (List ℕ) (λ κs a x s p. memory_of p)
left_step_memory κs a x y s t p q = (one_outcome p q).2
