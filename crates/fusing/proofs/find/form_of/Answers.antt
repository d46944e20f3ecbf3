use Rattle.std.proofs.Common.{arith, refl}
use Rattle.fusing.proofs.Finding.{some_to, field_word, begins, finds_const, finds_read, finds_not, finds_gate, finds_equal, finds_mux}
use Rattle.fusing.proofs.find.form_of.Goals as goal

pub returns-in-0 : goal.returns-in-0
returns-in-0 c = λ signals k q hb.
    finds_const k q (begins k q _ _ c.in_ok-entry.ensures c.wide-at.ensures) _ _
    (field_word _ _ _ 0 0 c.fields.ensures (omega arith) (omega (arith, c.in-0.len_at_least)))
    (field_word _ _ _ 1 1 c.fields.ensures (omega arith) (omega (arith, c.in-0.len_at_least)))
    _ (field_word _ _ _ 2 _ c.fields.ensures refl (omega (arith, c.in-0.len_at_least)))
    c.constant.ensures

pub returns-in_ok-spot-in-1 : goal.returns-in_ok-spot-in-1
returns-in_ok-spot-in-1 c = λ signals k q hb.
    finds_read k q (begins k q _ _ c.in_ok-entry.ensures c.wide-at.ensures) _ _ _ hb 1
    (field_word _ _ _ 0 1 c.fields.ensures (omega arith) (omega (arith, c.in-1.len_at_least)))
    refl
    (field_word _ _ _ 1 1 c.fields.ensures (omega arith) (omega (arith, c.in-1.len_at_least)))
    _ _ _
    (field_word _ _ _ 2 _ c.fields.ensures refl (omega (arith, c.in-1.len_at_least)))
    (field_word _ _ _ 3 _ c.fields.ensures refl (omega (arith, c.in-1.len_at_least)))
    _ c.wide.ensures c.in_ok-spot-in-1.ensures c.alone.ensures

pub returns-in-3 : goal.returns-in-3
returns-in-3 c = λ signals k q hb.
    some_to c.fused.result c.fused.ensures (λ z h.
    finds_not k q (begins k q _ _ c.in_ok-entry.ensures c.wide-at.ensures) _ z 3
    (field_word _ _ _ 0 3 c.fields.ensures (omega arith) (omega (arith, c.in-3.len_at_least))) refl
    _ (field_word _ _ _ 2 _ c.fields.ensures refl (omega (arith, c.in-3.len_at_least)))
    h)

pub returns-in-4-to-6 : goal.returns-in-4-to-6
returns-in-4-to-6 c = λ signals k q hb.
    some_to c.fused-in-4-to-6.result c.fused-in-4-to-6.ensures (λ z h.
    finds_gate k q (begins k q _ _ c.in_ok-entry.ensures c.wide-at.ensures) _ z _
    (field_word _ _ _ 0 _ c.fields.ensures refl (omega (arith, c.in-4-to-6.len_at_least))) (omega arith) (omega arith)
    _ _ (field_word _ _ _ 2 _ c.fields.ensures refl (omega (arith, c.in-4-to-6.len_at_least)))
    (field_word _ _ _ 3 _ c.fields.ensures refl (omega (arith, c.in-4-to-6.len_at_least)))
    h)

pub returns-in-8 : goal.returns-in-8
returns-in-8 c = λ signals k q hb.
    some_to c.equal_form.result c.equal_form.ensures (λ z h.
    finds_equal k q (begins k q _ _ c.in_ok-entry.ensures c.wide-at.ensures) _ z 8
    (field_word _ _ _ 0 8 c.fields.ensures (omega arith) (omega (arith, c.in-8.len_at_least))) refl
    _ _ (field_word _ _ _ 2 _ c.fields.ensures refl (omega (arith, c.in-8.len_at_least)))
    (field_word _ _ _ 3 _ c.fields.ensures refl (omega (arith, c.in-8.len_at_least)))
    h)

pub returns-in-7 : goal.returns-in-7
returns-in-7 c = λ signals k q hb.
    some_to c.fused-in-7.result c.fused-in-7.ensures (λ z h.
    finds_mux k q (begins k q _ _ c.in_ok-entry.ensures c.wide-at.ensures) _ z 7
    (field_word _ _ _ 0 7 c.fields.ensures (omega arith) (omega (arith, c.in-7.len_at_least))) refl
    _ _ _ (field_word _ _ _ 2 _ c.fields.ensures refl (omega (arith, c.in-7.len_at_least)))
    (field_word _ _ _ 3 _ c.fields.ensures refl (omega (arith, c.in-7.len_at_least)))
    (field_word _ _ _ 4 _ c.fields.ensures refl (omega (arith, c.in-7.len_at_least)))
    h)
