-- What a function of the host's side hands back, and the machine and the memory as it leaves them, are those of the run: `Gives` of the machine, with the
-- number of document 01's table in place of the answer. Assumes nothing.
use Rattle.std.specs.Prelude.{ℕ, ◌≡◌, List}
use Rattle.machine.specs.declared.Machine.{Machine}
use Rattle.control.specs.Answers.{number_of}
use Rattle.machine.specs.declared.walk.Report.{Report}
use Rattle.machine.specs.Runs.{Out}
use Rattle.host.specs.declared.CardReport.{CardReport}

-- a report of the machine, with the number in place of the answer
abbrev pub report_of : Report → CardReport
report_of r = record { answer = number_of r.answer; count = r.count; place = r.place }

pub record Reports (o : Out) (r : CardReport) (machine : Machine) (memory : List ℕ) : Type 0 where
  pub answer : r.answer ≡ o.number
  pub count : r.count ≡ o.count
  pub place : r.place ≡ o.place
  pub m : machine ≡ o.m
  pub mem : memory ≡ o.mem
