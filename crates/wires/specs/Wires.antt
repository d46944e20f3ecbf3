-- The wire map, and the two tables that hold it.
use Rattle.std.specs.Prelude.{List, ℕ, zero, suc, ◌/◌, ◌%◌, eqb, get_or}
use Rattle.std.specs.Prelude.{Option, None, Some}
use Rattle.bits.specs.Bits.{pick}
use Rattle.std.specs.Prelude.{option_map}
use Rattle.wires.specs.declared.WireMap.{WireMap}
use Rattle.wires.specs.declared.WireRef as code

-- where a wire's bit is: the signal, the bit's place in it, the signal's width
pub record WireRef : Type 0 where
  pub signal : ℕ
  pub lsb : ℕ
  pub width : ℕ

abbrev pub Wires : Type 0
Wires = ℕ → Option WireRef

abbrev pub no_wires : Wires
no_wires w = None

abbrev pub put : Wires → ℕ → WireRef → Wires
put m w r v = pick (eqb v w) (Some r) (m v)

-- the tables, by wire: the signal's number plus 1, or 0; the place times 65,536 plus the width
abbrev pub entry : ℕ → ℕ → Option WireRef
entry zero p = None
entry (suc s) p = Some (record { signal = s; lsb = p / 65536; width = p % 65536 })

unfoldable pub wires_of : List ℕ → List ℕ → Wires
wires_of wires places w = entry (get_or wires w 0) (get_or places w 0)

-- the wire map that the code holds
abbrev pub wires_in : WireMap → Wires
wires_in m = wires_of m.wires.now m.places.now

-- what the code finds there
abbrev pub ref_in : code.WireRef → WireRef
ref_in r = record { signal = r.signal.0; lsb = r.lsb; width = r.width }

abbrev pub found_in : Option code.WireRef → Option WireRef
found_in r = option_map ref_in r
