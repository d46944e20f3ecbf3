-- The lowering: what a netlist gives in lists of so many words, or its refusal.
use Rattle.std.specs.Prelude.{List, [], ◌∷◌, ℕ, suc, ◌+◌, eqb, leb}
use Rattle.std.specs.Prelude.{Option, None, Some}
use Rattle.bits.specs.Bits.{pick}
use Rattle.netlist.specs.declared.Limits.{Limits}
use Rattle.netlist.specs.Netlist.{Netlist}
use Rattle.netlist.specs.Reader.{Read, netlist, refused, read_words}
use Rattle.behaviour.specs.Banks.{collect_flip_flop_banks}
use Rattle.recorder.specs.Record.{Signal, Expr.const, Stmt, Stmt.assign, target}
use Rattle.recorder.specs.declared.Tapes.{Tapes}
use Rattle.recorder.specs.Writer.{Writer, pure, declare, emit, state, ◌>>=◌, ◌>>◌, model_of}
use Rattle.recorder.specs.Lists.{Lists, tapes, unwritten, Answer, Answer.Done, Answer.Failed, writing}
use Rattle.recorder.specs.Words.{blank}
use Rattle.wires.specs.declared.Constants.{Constants}
use Rattle.wires.specs.Wires.{Wires, no_wires}
use Rattle.lowering.specs.Reserve.{signal_of, reserve_ports, reserve_cells, reserve_flip_flop_banks}
use Rattle.lowering.specs.Emit.{emit_cells, emit_banks, emit_outputs}

-- 11: a signal that is driven more than once, or an input that is driven at all

unfoldable pub statements_on : ℕ → List Stmt → ℕ
statements_on s [] = 0
statements_on s (t ∷ ts) = pick (eqb (target t) s) 1 0 + statements_on s ts

-- an input may have none, another signal one
abbrev pub allowed : Signal → ℕ
allowed s = pick (eqb s.label 0) 0 1

-- the lowest such signal, from number s on
unfoldable pub overdriven_from : ℕ → List Signal → List Stmt → Option ℕ
overdriven_from s [] ts = None
overdriven_from s (x ∷ xs) ts = pick (leb (statements_on s ts) (allowed x)) (overdriven_from (suc s) xs ts) (Some s)

-- THE STEPS

unfoldable pub emit_constants : Writer Constants
emit_constants = do
  z ← declare (signal_of 14 1 0)
  o ← declare (signal_of 15 1 0)
  e₀ ← emit (const 1 0)
  e₁ ← emit (const 1 1)
  state (assign z e₀)
  state (assign o e₁)
  pure (record { zero = record { 0 = z }; one = record { 0 = o } })

-- the wire map
unfoldable pub reserve_netlist : Netlist → Writer Wires
reserve_netlist n = do
  m₁ ← reserve_ports no_wires 0 n.ports
  m₂ ← reserve_cells m₁ 0 n.cells
  reserve_flip_flop_banks m₂ 0 (collect_flip_flop_banks n.cells)

-- cells share their reads of so many wires, each by itself; with 0 every read is recorded
unfoldable pub emit_netlist : ℕ → Netlist → Wires → Writer (Unit {0})
emit_netlist shared n m = do
  z ← emit_constants
  emit_cells shared m z 0 n.cells
  emit_banks m z (collect_flip_flop_banks n.cells)
  emit_outputs m 0 n.ports

unfoldable pub lower_netlist : ℕ → Netlist → Writer (Unit {0})
lower_netlist shared n = do
  m ← reserve_netlist n
  emit_netlist shared n m

-- THE CALL: words of a netlist, and three lent lists of these lengths

-- no record yet
abbrev pub start : Tapes
start = tapes unwritten unwritten unwritten

pub data Lowered : Type 0 where
  -- each list's records and words used
  Accepted : Tapes → Lowered
  -- number, place
  Refused : ℕ → ℕ → Lowered

pub record Lowering : Type 0 where
  pub answer : Lowered
  pub lists : Lists

-- 11 comes last, and is judged on the model
abbrev pub judged : Option ℕ → Tapes → Lists → Lists → Lowering
judged None t l zeroed = record { answer = Accepted t; lists = l }
judged (Some s) t l zeroed = record { answer = Refused 11 s; lists = zeroed }

abbrev pub ended : {A : Type 0} → Answer A → Option ℕ → Lists → Lists → Lowering
ended (Done a t) conflict l zeroed = judged conflict t l zeroed
ended (Failed number place) conflict l zeroed = record { answer = Refused number place; lists = zeroed }

-- a netlist that the reader lets through
unfoldable pub lowered : ℕ → Netlist → ℕ → ℕ → ℕ → Lowering
lowered shared n s e t =
    let zeroed = blank s e t in
    let left = writing zeroed start (lower_netlist shared n) in
    let model = model_of (lower_netlist shared n (record { signals = 0; exprs = 0; stmts = 0 })).events in
    ended left.answer (overdriven_from 0 model.signals model.stmts) left.lists zeroed

abbrev pub lowered_read : ℕ → Read → ℕ → ℕ → ℕ → Lowering
lowered_read shared (netlist n) s e t = lowered shared n s e t
lowered_read shared (refused number place) s e t = record { answer = Refused number place; lists = blank s e t }

abbrev pub lower_sharing : ℕ → Limits → List ℕ → ℕ → ℕ → ℕ → Lowering
lower_sharing shared limits words s e t = lowered_read shared (read_words limits words) s e t

-- all wires that a netlist can have are shared
abbrev pub lower_words : Limits → List ℕ → ℕ → ℕ → ℕ → Lowering
lower_words limits words s e t = lower_sharing limits.wires limits words s e t
