-- DATA: what an order does to the vectors, the flags and the memory. It sees no general register and no address. Assumes nothing.
use Rattle.std.specs.Prelude.{ℕ, ◌*◌, ◌&&◌, List, Result, Ok, Err}
use Rattle.encodings.specs.declared.ops.Op.{Op}
use Rattle.decode.specs.declared.Decoded.{Decoded}
use Rattle.lanes.specs.declared.Marked.{Marked}
use Rattle.lines.specs.Lines.{sixteen, put, loaded_of, stored_of}
use Rattle.moves.specs.Chosen.{pattern_left, pattern_right}
use Rattle.compute.specs.Computed.{computed}
use Rattle.control.specs.declared.answers.Answer.{Answer}
use Rattle.control.specs.declared.orders.Order.{Order}
use Rattle.control.specs.declared.orders.Order.TheVariants.{SetGeneral, Compute, ReadStatus, WriteStatus, PatternLeft, PatternRight, ReadLine, WriteLine, ReadElement, WriteElement}
use Rattle.flags.specs.declared.Flags.{Flags}
use Rattle.flags.specs.Flags.{compares, status_of, from_status, marked_of, recorded_of}

-- what data works on
pub record Held : Type 0 where
  pub v : List ℕ
  pub flags : Flags
  pub mem : List ℕ

abbrev pub held_of : List ℕ → Flags → List ℕ → Held
held_of v f mem = record { v = v; flags = f; mem = mem }

-- register n of the vectors; register n becomes x
abbrev pub register : List ℕ → ℕ → List ℕ
register v n = sixteen v (16 * n)

abbrev pub with_register : Held → ℕ → List ℕ → Held
with_register h n x = held_of (put h.v (16 * n) x) h.flags h.mem

-- what the vector instruction op computes: all sources are read before anything is written
unfoldable pub computed_of : Op → Decoded → List ℕ → Marked
computed_of op w v = computed op (register v w.a) (register v w.b) (register v w.c) w.a w.count

-- the flags after it
unfoldable pub flags_after : Op → Decoded → Marked → Flags → Flags
flags_after op w r f = recorded_of (marked_of f r.marks) (w.rc && compares op) r.bytes

-- each order for the word w
abbrev pub effect_of : Order → Decoded → Held → Held
effect_of (SetGeneral x) w h = h
effect_of (Compute op) w h = held_of (put h.v (16 * w.d) (computed_of op w h.v).bytes) (flags_after op w (computed_of op w h.v) h.flags) h.mem
effect_of ReadStatus w h = with_register h w.d (status_of h.flags)
effect_of WriteStatus w h = held_of h.v (from_status (register h.v w.b) h.flags) h.mem
effect_of (PatternLeft s) w h = with_register h w.d (pattern_left s)
effect_of (PatternRight s) w h = with_register h w.d (pattern_right s)
effect_of (ReadLine at) w h = with_register h w.d (sixteen h.mem at)
effect_of (WriteLine at) w h = held_of h.v h.flags (put h.mem at (register h.v w.d))
effect_of (ReadElement e) w h = with_register h w.d (loaded_of h.mem e.at e.place e.bytes)
effect_of (WriteElement e) w h = held_of h.v h.flags (stored_of h.mem e.at e.place e.bytes (register h.v w.d))

-- the same of what control gave: a refusal leaves all as it was
abbrev pub effect_after : Result Order Answer → Decoded → Held → Held
effect_after (Ok o) w h = effect_of o w h
effect_after (Err a) w h = h
