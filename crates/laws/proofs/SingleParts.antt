-- ONE OUTCOME of the decoder, the parts of the machine, the run and the printed lines: two results that a contract allows are equal.
-- Assumes nothing.
use mathlib.Core.Path.{◌≡◌, sym, ap, ◌∙◌}
use Rattle.effects.specs.Effects.{Held}
use Rattle.machine.specs.declared.Machine.{Machine}
use Rattle.machine.specs.declared.Ran.{Ran}
use Rattle.machine.specs.declared.walk.Report.{Report}
use Rattle.encodings.proofs.operation.Kinds as decode-operation-kinds
use Rattle.encodings.proofs.operation.Reads as decode-operation
use Rattle.decode.proofs.decode.Kinds as decode-decode-kinds
use Rattle.decode.proofs.decode.Reads as decode-decode
use Rattle.decode.proofs.cleared.Kinds as decode-cleared-kinds
use Rattle.decode.proofs.cleared.Reads as decode-cleared
use Rattle.decode.proofs.reserved.any.Kinds as decode-any-kinds
use Rattle.decode.proofs.reserved.any.Reads as decode-any
use Rattle.decode.proofs.reserved.clear.Kinds as decode-clear-kinds
use Rattle.decode.proofs.reserved.clear.Reads as decode-clear
use Rattle.decode.proofs.traits.reads_a.Kinds as decode-reads-a-kinds
use Rattle.decode.proofs.traits.reads_a.Reads as decode-reads-a
use Rattle.decode.proofs.traits.reads_b.Kinds as decode-reads-b-kinds
use Rattle.decode.proofs.traits.reads_b.Reads as decode-reads-b
use Rattle.decode.proofs.traits.reads_c.Kinds as decode-reads-c-kinds
use Rattle.decode.proofs.traits.reads_c.Reads as decode-reads-c
use Rattle.decode.proofs.traits.reads_d.Kinds as decode-reads-d-kinds
use Rattle.decode.proofs.traits.reads_d.Reads as decode-reads-d
use Rattle.decode.proofs.traits.writes_d.Kinds as decode-writes-d-kinds
use Rattle.decode.proofs.traits.writes_d.Reads as decode-writes-d
use Rattle.decode.proofs.traits.can_clip.Kinds as decode-can-clip-kinds
use Rattle.decode.proofs.traits.can_clip.Reads as decode-can-clip
use Rattle.decode.proofs.traits.position_bound.Kinds as decode-position-bound-kinds
use Rattle.decode.proofs.traits.position_bound.Reads as decode-position-bound
use Rattle.decode.proofs.traits.reserved.Kinds as decode-reserved-kinds
use Rattle.decode.proofs.traits.reserved.Reads as decode-reserved
use Rattle.lines.proofs.load.Kinds as lines-load-kinds
use Rattle.lines.proofs.load.Reads as lines-load
use Rattle.lines.proofs.load_element.Kinds as lines-load-element-kinds
use Rattle.lines.proofs.load_element.Reads as lines-load-element
use Rattle.lines.proofs.vector.Kinds as lines-vector-kinds
use Rattle.lines.proofs.vector.Reads as lines-vector
use Rattle.control.proofs.answers.U32FromAnswer.from.Kinds as control-number-kinds
use Rattle.control.proofs.answers.U32FromAnswer.from.Reads as control-number
use Rattle.control.proofs.well_placed.Kinds as control-well-placed-kinds
use Rattle.control.proofs.well_placed.Reads as control-well-placed
use Rattle.machine.proofs.Machine.run.Kinds as machine-run-kinds
use Rattle.machine.proofs.Machine.run.Reads as machine-run
use Rattle.machine.proofs.Machine.step.Kinds as machine-step-kinds
use Rattle.machine.proofs.Machine.step.Reads as machine-step
use Rattle.texts.proofs.ReportLine.put.Kinds as texts-report-line-kinds
use Rattle.texts.proofs.ReportLine.put.Reads as texts-report-line
use Rattle.texts.proofs.VectorLine.put.Kinds as texts-vector-line-kinds
use Rattle.texts.proofs.VectorLine.put.Reads as texts-vector-line
use Rattle.texts.proofs.GeneralLine.put.Kinds as texts-general-line-kinds
use Rattle.texts.proofs.GeneralLine.put.Reads as texts-general-line
use Rattle.control.proofs.control.Kinds as control-control-kinds
use Rattle.control.proofs.control.Reads as control-control
use Rattle.flags.proofs.marked.Kinds as flags-marked-kinds
use Rattle.flags.proofs.marked.Reads as flags-marked
use Rattle.flags.proofs.recorded.Kinds as flags-recorded-kinds
use Rattle.flags.proofs.recorded.Reads as flags-recorded
use Rattle.flags.proofs.records.Kinds as flags-records-kinds
use Rattle.flags.proofs.records.Reads as flags-records
use Rattle.flags.proofs.status.Kinds as flags-status-kinds
use Rattle.flags.proofs.status.Reads as flags-status
use Rattle.flags.proofs.from_status.Kinds as flags-from-status-kinds
use Rattle.flags.proofs.from_status.Reads as flags-from-status
use Rattle.effects.proofs.effect.Kinds as effects-effect-kinds
use Rattle.effects.proofs.effect.Reads as effects-effect
use Rattle.laws.proofs.Outcome.{one_outcome}
use Rattle.texts.proofs.add.Kinds as texts-add-kinds
use Rattle.texts.proofs.add.Reads as texts-add
use Rattle.texts.proofs.add_hex.Kinds as texts-add-hex-kinds
use Rattle.texts.proofs.add_hex.Reads as texts-add-hex
use Rattle.reading.proofs.words.Kinds as reading-words-kinds
use Rattle.reading.proofs.words.Reads as reading-words
use Rattle.reading.proofs.numbers.read.Kinds as reading-read-kinds
use Rattle.reading.proofs.numbers.read.Reads as reading-read
use Rattle.states.proofs.at_rest.Kinds as states-at-rest-kinds
use Rattle.states.proofs.at_rest.Reads as states-at-rest
use Rattle.states.proofs.machine_of.Kinds as states-machine-of-kinds
use Rattle.states.proofs.machine_of.Reads as states-machine-of
use Rattle.laws.specs.Single.{OneResult}

abbrev ran_of : Report → Machine → Ran
ran_of r m = record { report = r; m = m }

same_ran : (x y : Ran) → x.report ≡ y.report → x.m ≡ y.m → x ≡ y
same_ran x y e f = ap (λ (r : Report). ran_of r x.m) e ∙ ap (λ (m : Machine). ran_of y.report m) f

pub one_decode-operation : OneResult 0 decode-operation-kinds.ps decode-operation-kinds.r decode-operation.Post
one_decode-operation κs a x y s t p q = p ∙ sym q

pub one_decode-decode : OneResult 0 decode-decode-kinds.ps decode-decode-kinds.r decode-decode.Post
one_decode-decode κs a x y s t p q = p ∙ sym q

pub one_decode-cleared : OneResult 0 decode-cleared-kinds.ps decode-cleared-kinds.r decode-cleared.Post
one_decode-cleared κs a x y s t p q = p ∙ sym q

pub one_decode-any : OneResult 0 decode-any-kinds.ps decode-any-kinds.r decode-any.Post
one_decode-any κs a x y s t p q = p ∙ sym q

pub one_decode-clear : OneResult 0 decode-clear-kinds.ps decode-clear-kinds.r decode-clear.Post
one_decode-clear κs a x y s t p q = p ∙ sym q

pub one_decode-reads_a : OneResult 0 decode-reads-a-kinds.ps decode-reads-a-kinds.r decode-reads-a.Post
one_decode-reads_a κs a x y s t p q = p ∙ sym q

pub one_decode-reads_b : OneResult 0 decode-reads-b-kinds.ps decode-reads-b-kinds.r decode-reads-b.Post
one_decode-reads_b κs a x y s t p q = p ∙ sym q

pub one_decode-reads_c : OneResult 0 decode-reads-c-kinds.ps decode-reads-c-kinds.r decode-reads-c.Post
one_decode-reads_c κs a x y s t p q = p ∙ sym q

pub one_decode-reads_d : OneResult 0 decode-reads-d-kinds.ps decode-reads-d-kinds.r decode-reads-d.Post
one_decode-reads_d κs a x y s t p q = p ∙ sym q

pub one_decode-writes_d : OneResult 0 decode-writes-d-kinds.ps decode-writes-d-kinds.r decode-writes-d.Post
one_decode-writes_d κs a x y s t p q = p ∙ sym q

pub one_decode-can_clip : OneResult 0 decode-can-clip-kinds.ps decode-can-clip-kinds.r decode-can-clip.Post
one_decode-can_clip κs a x y s t p q = p ∙ sym q

pub one_decode-position_bound : OneResult 0 decode-position-bound-kinds.ps decode-position-bound-kinds.r decode-position-bound.Post
one_decode-position_bound κs a x y s t p q = p ∙ sym q

pub one_decode-reserved : OneResult 0 decode-reserved-kinds.ps decode-reserved-kinds.r decode-reserved.Post
one_decode-reserved κs a x y s t p q = p ∙ sym q

pub one_lines-load : OneResult 1 lines-load-kinds.ps lines-load-kinds.r lines-load.Post
one_lines-load κs a x y s t p q = p ∙ sym q

pub one_lines-load_element : OneResult 1 lines-load-element-kinds.ps lines-load-element-kinds.r lines-load-element.Post
one_lines-load_element κs a x y s t p q = p ∙ sym q

pub one_lines-vector : OneResult 1 lines-vector-kinds.ps lines-vector-kinds.r lines-vector.Post
one_lines-vector κs a x y s t p q = p ∙ sym q

pub one_control-number : OneResult 0 control-number-kinds.ps control-number-kinds.r control-number.Post
one_control-number κs a x y s t p q = p ∙ sym q

pub one_control-well_placed : OneResult 0 control-well-placed-kinds.ps control-well-placed-kinds.r control-well-placed.Post
one_control-well_placed κs a x y s t p q = p ∙ sym q

pub one_machine-run : OneResult 2 machine-run-kinds.ps machine-run-kinds.r machine-run.Post
one_machine-run κs a x y s t p q = same_ran x y (one_outcome p q).0 (one_outcome p q).1

pub one_machine-step : OneResult 2 machine-step-kinds.ps machine-step-kinds.r machine-step.Post
one_machine-step κs a x y s t p q = same_ran x y (one_outcome p q).0 (one_outcome p q).1

pub one_texts-report_line : OneResult 1 texts-report-line-kinds.ps texts-report-line-kinds.r texts-report-line.Post
one_texts-report_line κs a x y s t p q = p.0.end ∙ sym q.0.end

pub one_texts-vector_line : OneResult 1 texts-vector-line-kinds.ps texts-vector-line-kinds.r texts-vector-line.Post
one_texts-vector_line κs a x y s t p q = p.0.end ∙ sym q.0.end

pub one_texts-general_line : OneResult 1 texts-general-line-kinds.ps texts-general-line-kinds.r texts-general-line.Post
one_texts-general_line κs a x y s t p q = p.0.end ∙ sym q.0.end

pub one_control-control : OneResult 1 control-control-kinds.ps control-control-kinds.r control-control.Post
one_control-control κs a x y s t p q = p.order ∙ sym q.order

pub one_flags-marked : OneResult 0 flags-marked-kinds.ps flags-marked-kinds.r flags-marked.Post
one_flags-marked κs a x y s t p q = p ∙ sym q

pub one_flags-recorded : OneResult 0 flags-recorded-kinds.ps flags-recorded-kinds.r flags-recorded.Post
one_flags-recorded κs a x y s t p q = p ∙ sym q

pub one_flags-records : OneResult 0 flags-records-kinds.ps flags-records-kinds.r flags-records.Post
one_flags-records κs a x y s t p q = p ∙ sym q

pub one_flags-status : OneResult 0 flags-status-kinds.ps flags-status-kinds.r flags-status.Post
one_flags-status κs a x y s t p q = p ∙ sym q

pub one_flags-from_status : OneResult 0 flags-from-status-kinds.ps flags-from-status-kinds.r flags-from-status.Post
one_flags-from_status κs a x y s t p q = p ∙ sym q

pub one_effects-effect : OneResult 2 effects-effect-kinds.ps effects-effect-kinds.r effects-effect.Post
one_effects-effect κs a x y s t p q = ap (λ (h : Held). h.flags) (p ∙ sym q)

pub one_texts-add : OneResult 2 texts-add-kinds.ps texts-add-kinds.r texts-add.Post
one_texts-add κs a x y s t p q = p.0.end ∙ sym q.0.end

pub one_texts-add_hex : OneResult 2 texts-add-hex-kinds.ps texts-add-hex-kinds.r texts-add-hex.Post
one_texts-add_hex κs a x y s t p q = p.end ∙ sym q.end

pub one_reading-words : OneResult 2 reading-words-kinds.ps reading-words-kinds.r reading-words.Post
one_reading-words κs a x y s t p q = p.0.count ∙ sym q.0.count

pub one_reading-read : OneResult 1 reading-read-kinds.ps reading-read-kinds.r reading-read.Post
one_reading-read κs a x y s t p q = p ∙ sym q

pub one_states-at_rest : OneResult 0 states-at-rest-kinds.ps states-at-rest-kinds.r states-at-rest.Post
one_states-at_rest κs a x y s t p q = p ∙ sym q

pub one_states-machine_of : OneResult 1 states-machine-of-kinds.ps states-machine-of-kinds.r states-machine-of.Post
one_states-machine_of κs a x y s t p q = p ∙ sym q
