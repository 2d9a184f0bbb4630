-- A Load or a Store that goes before its turn: where each template ahead lets it go, the flush is the same.
use Prim.Native.Nat.{ℕ, zero, suc, ◌<◌}
use native.Mathlib.Omega.{arith}
use mathlib.Core.Path.{◌≡◌, refl, sym, ap, ◌∙◌}
use mathlib.Core.Logic.{◌≢◌}
use mathlib.Core.Bool.{false, true≢false}
use mathlib.Core.List.{List, [], ◌∷◌}
use mathlib.Core.Option.{some}
use lib.ListN.{length, set, get_elem?, length-set}
use lib.Seq.{set_comm}
use borrow.Author.Tests.{lt-ltb}
use Rattle.std.specs.Prelude.{Result, Ok, Err}
use Rattle.records.specs.declared.Refusal.{Refusal}
use Rattle.value.specs.declared.Value.{Value}
use Rattle.value.specs.declared.Value.TheVariants.{Undefined, Word}
use Rattle.isa.specs.declared.InstrAddr.{InstrAddr}
use Rattle.isa.specs.declared.Tag.{Tag}
use Rattle.cells.specs.Cells.{load_from}
use Rattle.kernel.specs.Kernel.{read_at, branch, Run, going, stopped, attempt}
use Rattle.templates.specs.declared.Operand.{Operand}
use Rattle.templates.specs.declared.Operand.TheVariants.{Known, Waits}
use Rattle.templates.specs.declared.Work.{Work}
use Rattle.templates.specs.declared.Work.TheVariants.{Done, Op, Jz, Load, Store}
use Rattle.templates.specs.Machine.{Itb}
use Rattle.sound.specs.Sound.{is_jz, any_jz}
use Rattle.sound.proofs.Basics.{neither}
use Rattle.rules.proofs.Environment.{Env, resolve}
use Rattle.rules.proofs.Order.{LetsLoad, LetsStore, Each}
use Rattle.demands.proofs.Binding.{bind}
use Rattle.demands.proofs.Flush.{execute, flush}

-- ---- cells

cell_kept : (m : List Value) (i j : ℕ) (v : Value) → j ≢ i → get_elem? (set m i v) j ≡ get_elem? m j
cell_kept [] i j v d = refl
cell_kept (u ∷ m) zero zero v d = absurd (d refl)
cell_kept (u ∷ m) zero (suc j) v d = refl
cell_kept (u ∷ m) (suc i) zero v d = refl
cell_kept (u ∷ m) (suc i) (suc j) v d = cell_kept m i j v (λ e. d (ap suc e))

cell_there : (m : List Value) (i : ℕ) → i < length m → (v : Value) × (get_elem? m i ≡ some v)
cell_there [] i l = absurd (omega arith)
cell_there (u ∷ m) zero l = (u, refl)
cell_there (u ∷ m) (suc i) l = cell_there m i (omega arith)

pub reads : (m : List Value) (x : ℕ) (v : Value) → get_elem? m x ≡ some v → read_at m (Word x) ≡ Ok v
unfolding load_from
reads m x v e = rw e

-- ---- a Load of cell x, which holds v

module _ (x size : ℕ) (v : Value) where
  -- the cell is as it was
  abbrev pub Same : Run Env → Type 0
  Same (going e p m) = (length m ≡ size) × (get_elem? m x ≡ some v)
  Same (stopped a n m) = Unit

  same_attempt : {A : Type 0} (a : InstrAddr) (m : List Value) (f : A → Run Env) → ((y : A) → Same (f y)) → (r : Result A Refusal) → Same (attempt a m f r)
  same_attempt a m f h (Ok y) = h y
  same_attempt a m f h (Err n) = tt

  same_execute : (a : InstrAddr) (w : Work) (r : Run Env) → LetsLoad x size w → Same r → Same (execute a w r)
  same_execute a w (stopped b n m) g h = tt
  same_execute a (Done t u) (going e p m) g h = h
  same_execute a (Op t n u y) (going e p m) g h = h
  same_execute a (Jz u y) (going e p m) g h = same_attempt a m (λ q. going e q m) (λ _. h) (branch a (resolve e u) (resolve e y))
  same_execute a (Load t u) (going e p m) g h = same_attempt a m (λ y. going (bind t y e) p m) (λ _. h) (read_at m (resolve e u))
  same_execute a (Store (Known (Word y)) d) (going e p m) g h =
      rw (lt-ltb y (length m) (rw h.0 g.0))
      (length-set m y (resolve e d) ∙ h.0, cell_kept m y x (resolve e d) (λ q. g.1 (sym q)) ∙ h.1)
  same_execute a (Store (Known Undefined) d) (going e p m) g h = absurd g
  same_execute a (Store (Waits t) d) (going e p m) g h = absurd g

  pub same_flush : (xs : List Itb) (r : Run Env) → Each (LetsLoad x size) xs → Same r → Same (flush xs r)
  same_flush [] r g h = h
  same_flush (y ∷ xs) r g h = same_flush xs (execute y.address y.work r) g.1 (same_execute y.address y.work r g.0 h)

  -- so the Load gives v, wherever its turn is
  pub load_early : (a : InstrAddr) (t : Tag) (r : Run Env) → Same r → execute a (Done t v) r ≡ execute a (Load t (Known (Word x))) r
  load_early a t (stopped b n m) h = refl
  load_early a t (going e p m) h = ap (attempt a m (λ u. going (bind t u e) p m)) (sym (reads m x v h.1))

-- ---- a Store of v to cell x

module _ (x size : ℕ) (v : Value) where
  abbrev pub wrote : Run Env → Run Env
  wrote (going e p m) = going e p (set m x v)
  wrote (stopped a n m) = stopped a n m

  -- it goes on, with a memory of that size
  abbrev pub Sized : Run Env → Type 0
  Sized (going e p m) = length m ≡ size
  Sized (stopped a n m) = ⊥

  -- the write and the template may change places
  abbrev Swaps : (Run Env → Run Env) → Run Env → Type 0
  Swaps f r = (f (wrote r) ≡ wrote (f r)) × Sized (f r)

  swap_load : (a : InstrAddr) (t : Tag) (y : ℕ) (e : Env) (p : InstrAddr) (m : List Value) → (y < size) × (y ≢ x) → length m ≡ size
      → Swaps (execute a (Load t (Known (Word y)))) (going e p m)
  swap_load a t y e p m g h =
      let c = cell_there m y (rw h g.0) in
      rw (reads m y c.0 c.1, reads (set m x v) y c.0 (cell_kept m x y v g.1 ∙ c.1)) (refl, h)

  swap_store : (a : InstrAddr) (y : ℕ) (d : Operand) (e : Env) (p : InstrAddr) (m : List Value) → (y < size) × (y ≢ x) → length m ≡ size
      → Swaps (execute a (Store (Known (Word y)) d)) (going e p m)
  swap_store a y d e p m g h =
      let l : y < length m = rw h g.0 in
      let k : y < length (set m x v) = rw (length-set m x v) l in
      rw (lt-ltb y (length m) l, lt-ltb y (length (set m x v)) k)
      (ap (going e p) (set_comm m x y v (resolve e d) (λ q. g.1 (sym q))), length-set m y (resolve e d) ∙ h)

  sized-execute : (a : InstrAddr) (w : Work) (r : Run Env) → LetsStore x size w → is_jz w ≡ false → Sized r → Swaps (execute a w) r
  sized-execute a w (stopped b n m) g j h = absurd h
  sized-execute a (Done t u) (going e p m) g j h = (refl, h)
  sized-execute a (Op t n u y) (going e p m) g j h = (refl, h)
  sized-execute a (Jz u y) (going e p m) g j h = absurd (true≢false j)
  sized-execute a (Load t (Known (Word y))) (going e p m) g j h = swap_load a t y e p m g h
  sized-execute a (Load t (Known Undefined)) (going e p m) g j h = absurd g
  sized-execute a (Load t (Waits s)) (going e p m) g j h = absurd g
  sized-execute a (Store (Known (Word y)) d) (going e p m) g j h = swap_store a y d e p m g h
  sized-execute a (Store (Known Undefined) d) (going e p m) g j h = absurd g
  sized-execute a (Store (Waits s) d) (going e p m) g j h = absurd g

  pub sized-flush : (xs : List Itb) (r : Run Env) → Each (LetsStore x size) xs → any_jz xs ≡ false → Sized r
      → (flush xs (wrote r) ≡ wrote (flush xs r)) × Sized (flush xs r)
  sized-flush [] r g j h = (refl, h)
  sized-flush (y ∷ xs) r g j h =
      let n = neither (is_jz y.work) (any_jz xs) j in
      let k = sized-execute y.address y.work r g.0 n.0 h in
      let i = sized-flush xs (execute y.address y.work r) g.1 n.1 k.1 in
      (ap (flush xs) k.0 ∙ i.0, i.1)

  pub store_early : (a : InstrAddr) (r : Run Env) → x < size → Sized r → wrote r ≡ execute a (Store (Known (Word x)) (Known v)) r
  store_early a (stopped b n m) l h = absurd h
  store_early a (going e p m) l h = rw (lt-ltb x (length m) (rw h l))
