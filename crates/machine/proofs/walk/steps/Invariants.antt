-- `machine::walk::steps`: what holds before each word. The words that are left, from where the loop stands, give what the whole run gives.
use Rattle.std.proofs.Common.{◌≡◌, ◌≤◌, length, ◌+◌, ◌-◌}
use Rattle.machine.proofs.Meaning.{state_of}
use Rattle.machine.specs.Runs.{machine_of, starts, runs}
use Rattle.machine.proofs.walk.steps.Given as goal

abbrev pub invariant-loop-count : goal.invariant-loop-count
invariant-loop-count l = (l.count ≤ l.allowance)
    × (l.place + l.count ≤ l.n)
    × (length l.mem ≡ length l.initial.mem)
    × (runs l.code l.base l.allowance (starts l.place (machine_of l.initial.v l.initial.g l.initial.f) l.initial.mem) ≡ runs l.code l.base (l.allowance - l.count) (state_of l.count (l.place + l.count) l.v l.g l.f l.mem))
