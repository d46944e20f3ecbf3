use Rattle.std.proofs.Common.{arith, sym, subst}
use Rattle.fusing.proofs.Filling.{put_rest, put_behind, known_of}
use borrow.Rule.Slice.PartMut.{take_put}
use Rattle.fusing.specs.Form.{Formed}
use Rattle.std.proofs.Common.{List, ℕ, ◌*◌, ◌≤◌, length, ◌-◌}
use Rattle.fusing.specs.Form.{Formed}
use Rattle.fusing.proofs.fill_forms.Goals as goal

-- src/lib.rt:77:1
pub returns : goal.returns
returns c =
    let a = c.args in
    let h : a.from ≤ length a.forms.now = omega arith in
    let f : List ℕ = c.fill.new.forms in
    record {
      before = take_put a.from (length a.forms.now - a.from) a.forms.now f h;
      behind = put_behind a.from (6 * a.n) a.forms.now f h c.fill.ensures.behind;
      no_room = λ q. absurd (omega arith);
      formed = λ k. subst (λ (l : List ℕ). Formed a.signals.now a.exprs.now a.stmts.now l a.n) (sym (put_rest a.from a.forms.now f h)) (c.fill.ensures.formed a.signals.now (known_of k) k.count);
    }
