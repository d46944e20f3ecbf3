-- A row that reads through the map that the cell began with.
use Rattle.std.specs.Prelude.{◌≡◌, List, ℕ}
use Rattle.netlist.specs.declared.Bit.{Bit}
use Rattle.recorder.specs.Writer.{End}
use Rattle.wires.specs.declared.Emitter.{Emitter}
use Rattle.wires.specs.Wires.{Wires, wires_in}
use Rattle.wires.specs.Once.{seen_in, Once}
use Rattle.wires.proofs.OnMap.{once_on}
use Rattle.cells.specs.Cells.{ccu_row}

pub row_on : {e : Emitter} {m : Wires} → m ≡ wires_in e.map → (inputs : List Bit) (init inject sum carry : ℕ) → {r : End ℕ} {e' : Emitter}
    → Once e (ccu_row (wires_in e.map) (seen_in e) inputs init inject sum carry) r e' → Once e (ccu_row m (seen_in e) inputs init inject sum carry) r e'
row_on {e} q inputs init inject sum carry h = once_on q (λ w. ccu_row w (seen_in e) inputs init inject sum carry) h
