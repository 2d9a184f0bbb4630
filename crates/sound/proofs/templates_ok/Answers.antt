-- `sound::templates_ok` meets its contract.
use mathlib.Core.Path.{◌≡◌, refl, sym, ap, ap₂, ◌∙◌}
use Prim.Native.Nat.{ℕ, ◌<◌}
use native.Mathlib.Omega.{arith}
use mathlib.Core.Bool.{true, and-eq-true_iff}
use lib.Dec.{ltb}
use lib.ListN.{length, take}
use Rattle.templates.specs.declared.Template.{Template}
use Rattle.templates.specs.Machine.{Itb, nothing}
use Rattle.templates.specs.Layout.{itb}
use Rattle.rows.specs.Shown.{held_of}
use Rattle.rows.proofs.Showing.{held_size, at_shown}
use Rattle.sound.specs.Sound.{Produced, none, after, after_all, work_ok, template_ok}
use Rattle.sound.specs.Search.{told}
use Rattle.sound.proofs.Turns.{walk_on, walk_out, walk_end}
use Rattle.sound.proofs.Producers.{after_all-next}
use Rattle.sound.proofs.Tags.{told_none}
use mathlib.Core.List.{List}
use lib.Seq.{take_all}
use Rattle.sound.proofs.templates_ok.Goals as goal

-- one that is in order has work that is
template-work : (k : ℕ) (made : Produced) (x : Itb) → template_ok k made x ≡ true → work_ok made x.work ≡ true
template-work k made x e = ((and-eq-true_iff (ltb x.address.0 k) (work_ok made x.work)).0 e).1

pub loop-i-init : goal.loop-i-init
loop-i-init c = (record { long = held_size c.args.n c.args.ts.now c.requires; left = refl }, told_none 65, omega arith)

pub returns-then-not-template_ok : goal.returns-then-not-template_ok
returns-then-not-template_ok c = let bad = sym (ap₂ (template_ok c.args.instructions) c.loop-i.invariant.1 (ap itb c.template-x.ensures)) ∙ sym c.template_ok.ensures ∙ c.if-not-template_ok.true in
    sym (walk_out c.loop-i.invariant.0 nothing (at_shown c.args.n c.args.ts.now c.loop-i.i c.loop-i-test.true c.requires) c.loop-i-test.true (rw bad))

pub after-made-requires : goal.after-made-requires
after-made-requires c = template-work c.args.instructions (told c.loop-i.made) (itb c.template-x.result) (sym c.template_ok.ensures ∙ c.if-not-template_ok.false)

pub loop-i-preserved : goal.loop-i-preserved
loop-i-preserved c = let ts = c.args.ts.now in
    let n = c.args.n in
    let i = c.loop-i.i in
    let here = at_shown n ts i c.loop-i-test.true c.requires in
    let within : i < length (held_of n ts) = omega (arith, held_size n ts c.requires, c.loop-i-test.true) in
    let next = after_all-next (held_of n ts) i nothing within ∙ ap (λ (x : Itb). after x.work (after_all (take i (held_of n ts)) none)) here in
    let fine = sym (ap₂ (template_ok c.args.instructions) c.loop-i.invariant.1 (ap itb c.template-x.ensures)) ∙ sym c.template_ok.ensures ∙ c.if-not-template_ok.false in (
      walk_on c.loop-i.invariant.0 nothing here c.loop-i-test.true (rw (next, fine)),
      c.after-made.ensures ∙ ap₂ (λ (x : Template) (made : Produced). after x.work made) c.template-x.ensures c.loop-i.invariant.1 ∙ sym next,
      omega (arith, c.loop-i-test.true),
    )

pub returns : goal.returns
returns c = let end : c.loop-i.i ≡ c.args.n = omega (arith, c.loop-i-test.false, c.loop-i.invariant.2) in (
  sym (walk_end c.loop-i.invariant.0 c.loop-i-test.false),
  c.loop-i.invariant.1 ∙ ap (λ (k : ℕ). after_all (take k (held_of c.args.n c.args.ts.now)) none) end ∙ ap (λ (xs : List Itb). after_all xs none) (take_all c.args.n (held_of c.args.n c.args.ts.now) (omega (arith, held_size c.args.n c.args.ts.now c.requires))),
)
