-- Demand 2, of the in-order machine: a step goes on with what the memo's rules give, and stops exactly where they give nothing.
use Prim.Native.Nat.{ℕ}
use mathlib.Core.Path.{◌≡◌, refl, sym, ap, ap₂, subst, ◌∙◌}
use mathlib.Core.Logic.{◌↔◌}
use mathlib.Core.List.{List}
use mathlib.Core.Option.{Option, none, some}
use lib.Dec.{eqb, ltb}
use lib.ListN.{length, get_elem?}
use borrow.Author.Tests.{eqb-true, eqb-false, ne_eqb, ltb-true, lt-ltb}
use Rattle.records.specs.declared.Refusal.{Refusal}
use Rattle.value.specs.declared.Value.{Value}
use Rattle.value.specs.declared.Value.TheVariants.{Undefined, Word}
use Rattle.isa.specs.declared.InstrAddr.{InstrAddr}
use Rattle.isa.specs.declared.Reg.{Reg}
use Rattle.isa.specs.declared.Instr.{Instr}
use Rattle.isa.specs.declared.Instr.TheVariants.{Loadc, Loadpc, Op, Jz, Load, Store}
use Rattle.isa.specs.Program.{present}
use Rattle.cells.specs.Cells.{inside, load_from}
use Rattle.kernel.specs.Kernel.{next, read_at, write_at, target, branch, Run, going, stopped, attempt}
use Rattle.sound.proofs.Basics.{by_test}
use Rattle.inorder.specs.declared.Register.{Register}
use Rattle.inorder.specs.declared.InOrder.{InOrder}
use Rattle.inorder.specs.Machine.{machine, held, put, perform, step, once}
use Rattle.inorder.proofs.Stops.{once_stops}
use Rattle.demands.specs.Memo.{Fetches}
use Rattle.demands.specs.MemoBase as Memo
use Rattle.demands.specs.MemoBase.{Proc, Executes}

abbrev Run' : Type 0
Run' = Run (List Register)

abbrev Stopped : Run' → Type 0
Stopped (going rf ia m) = ⊥
Stopped (stopped ia n m) = Unit

module _ (prog : List Instr) where
  -- ---- from a step of the memo to one that goes on

  performed : (ia : InstrAddr) (rf : List Register) (m : List Value) (i : Instr) → Fetches prog ia i → once prog (Proc ia rf) m ≡ perform rf ia m i
  unfolding step
  performed ia rf m i e = ap (λ (o : Option Instr). attempt ia m (perform rf ia m) (present o)) e

  pub memo_goes : {s s' : InOrder} {m m' : List Value} → Executes prog s m s' m' → once prog s m ≡ going s'.registers s'.counter m'
  unfolding load_from
  memo_goes (Memo.loadc {ia} {rf} {m} {r} {v} e) = performed ia rf m (Loadc r v) e
  memo_goes (Memo.loadpc {ia} {rf} {m} {r} e) = performed ia rf m (Loadpc r) e
  memo_goes (Memo.op {ia} {rf} {m} {n} {r} {r₁} {r₂} e) = performed ia rf m (Op r n r₁ r₂) e
  memo_goes (Memo.jz_jump {ia} {rf} {m} {r₁} {r₂} {nia} e c g) = performed ia rf m (Jz r₁ r₂) e ∙ rw (c, g) refl
  memo_goes (Memo.jz_no_jump {ia} {rf} {m} {r₁} {r₂} {v} e c h) = performed ia rf m (Jz r₁ r₂) e ∙ rw (c, ne_eqb v 0 h) refl
  memo_goes (Memo.load {ia} {rf} {m} {r} {r₁} {a} {v} e c g) = performed ia rf m (Load r r₁) e ∙ rw (c, g) refl
  memo_goes (Memo.store {ia} {rf} {m} {r₁} {r₂} {a} e c l) = performed ia rf m (Store r₁ r₂) e ∙ rw (c, lt-ltb a (length m) l) refl

  -- ---- from a step that goes on to one of the memo

  module _ (ia : InstrAddr) (rf : List Register) (m : List Value) where
    -- if it goes on, the memo has the step
    abbrev Told : Run' → Type 0
    Told (going rf' ia' m') = Executes prog (Proc ia rf) m (Proc ia' rf') m'
    Told (stopped ia' n m') = Unit

    jump-told : (r₁ r₂ : Reg) → Fetches prog ia (Jz r₁ r₂) → held rf r₁ ≡ Word 0 → (v : Value) → held rf r₂ ≡ v
        → Told (attempt ia m (λ to. going rf to m) (target v))
    jump-told r₁ r₂ e z Undefined g = tt
    jump-told r₁ r₂ e z (Word nia) g = Memo.jz_jump e z g

    jz_told : (r₁ r₂ : Reg) → Fetches prog ia (Jz r₁ r₂) → (u : Value) → held rf r₁ ≡ u
        → Told (attempt ia m (λ to. going rf to m) (branch ia u (held rf r₂)))
    jz_told r₁ r₂ e Undefined c = tt
    jz_told r₁ r₂ e (Word w) c =
        by_test (λ t. Told (attempt ia m (λ to. going rf to m) t)) (eqb w 0) (λ z. jump-told r₁ r₂ e (c ∙ ap Word (eqb-true w 0 z)) (held rf r₂) refl)
        (λ z. Memo.jz_no_jump e c (eqb-false w 0 z))

    loaded-told : (r r₁ : Reg) → Fetches prog ia (Load r r₁) → (w : ℕ) → held rf r₁ ≡ Word w → (o : Option Value) → get_elem? m w ≡ o
        → Told (attempt ia m (λ v. going (put rf r v) (next ia) m) (inside o))
    loaded-told r r₁ e w c none g = tt
    loaded-told r r₁ e w c (some v) g = Memo.load e c g

    load_told : (r r₁ : Reg) → Fetches prog ia (Load r r₁) → (u : Value) → held rf r₁ ≡ u
        → Told (attempt ia m (λ v. going (put rf r v) (next ia) m) (read_at m u))
    unfolding load_from
    load_told r r₁ e Undefined c = tt
    load_told r r₁ e (Word w) c = loaded-told r r₁ e w c (get_elem? m w) refl

    store_told : (r₁ r₂ : Reg) → Fetches prog ia (Store r₁ r₂) → (u : Value) → held rf r₁ ≡ u
        → Told (attempt ia m (λ m'. going rf (next ia) m') (write_at m u (held rf r₂)))
    store_told r₁ r₂ e Undefined c = tt
    store_told r₁ r₂ e (Word w) c =
        by_test (λ t. Told (attempt ia m (λ m'. going rf (next ia) m') t)) (ltb w (length m)) (λ l. Memo.store e c (ltb-true w (length m) l)) (λ _. tt)

    perform-told : (i : Instr) → Fetches prog ia i → Told (perform rf ia m i)
    perform-told (Loadc r k) e = Memo.loadc e
    perform-told (Loadpc r) e = Memo.loadpc e
    perform-told (Op r n r₁ r₂) e = Memo.op e
    perform-told (Jz r₁ r₂) e = jz_told r₁ r₂ e (held rf r₁) refl
    perform-told (Load r r₁) e = load_told r r₁ e (held rf r₁) refl
    perform-told (Store r₁ r₂) e = store_told r₁ r₂ e (held rf r₁) refl

    fetched-told : (o : Option Instr) → get_elem? prog ia.0 ≡ o → Told (attempt ia m (perform rf ia m) (present o))
    fetched-told none e = tt
    fetched-told (some i) e = perform-told i e

    once-told : Told (once prog (Proc ia rf) m)
    unfolding step
    once-told = fetched-told (get_elem? prog ia.0) refl

-- ---- demand 2

module _ (prog : List Instr) (s : InOrder) (m : List Value) where
  -- it goes on with what the memo's rules give
  pub goes_exactly : (s' : InOrder) (m' : List Value) → (once prog s m ≡ going s'.registers s'.counter m') ↔ Executes prog s m s' m'
  goes_exactly s' m' = (λ e. subst (Told prog s.counter s.registers m) e (once-told prog s.counter s.registers m), memo_goes prog)

  -- it stops, unchanged, where they give nothing
  pub stops_exactly : ((n : Refusal) × (once prog s m ≡ stopped s.counter n m)) ↔ ((s' : InOrder) (m' : List Value) → Executes prog s m s' m' → ⊥)
  stops_exactly = (λ no s' m' x. subst Stopped (sym no.1 ∙ memo_goes prog x) tt, none_stops (once prog s m) refl)
    where
      none_stops : (r : Run') → once prog s m ≡ r → ((s' : InOrder) (m' : List Value) → Executes prog s m s' m' → ⊥)
          → (n : Refusal) × (once prog s m ≡ stopped s.counter n m)
      none_stops (going rf ia m') e never = absurd (never (machine ia rf) m' ((goes_exactly (machine ia rf) m').0 e))
      none_stops (stopped ia n m') e never =
          let h = rw e at (once_stops prog s m) in
          (n, e ∙ ap₂ (λ (b : InstrAddr) (l : List Value). stopped b n l) h.0 h.1)
