-- The five kinds of rows, and the work that each stands for.
use mathlib.Core.Path.{◌≡◌, refl}
use mathlib.Core.Logic.{◌≢◌}
use Prim.Native.Nat.{ℕ, zero, suc, ◌≤◌, ◌<◌}
use native.Mathlib.Omega.{arith}
use mathlib.Core.List.{List}
use borrow.Author.Tests.{ne_eqb}
use Rattle.templates.specs.declared.Work.{Work}
use Rattle.templates.specs.declared.Work.TheVariants.{Done, Op, Jz, Load, Store}
use Rattle.rows.specs.Rows.{Row, a_value, an_op, a_jz, a_load, a_store, head, one, two, work_by, itb_of, row_at, kind_at, operation_at, tag_at, value_at, first_at, second_at}
use Rattle.rows.specs.Shown.{Table}
use Rattle.rows.proofs.Showing.{kind_most}

module _ (ts : List Row) (p : ℕ) where
  abbrev work : Work
  work = (itb_of (row_at ts p)).work

  abbrev kind : ℕ
  kind = kind_at ts p

  pub work-value : kind ≡ a_value → work ≡ Done (tag_at ts p) (value_at ts p)
  work-value e = rw e refl

  pub work_op : kind ≡ an_op → work ≡ Op (tag_at ts p) (operation_at ts p) (first_at ts p) (second_at ts p)
  work_op e = rw e refl

  pub work_jz : kind ≡ a_jz → work ≡ Jz (first_at ts p) (second_at ts p)
  work_jz e = rw e refl

  pub work-load : kind ≡ a_load → work ≡ Load (tag_at ts p) (first_at ts p)
  work-load e = rw e refl

  pub work-store : kind ≢ a_value → kind ≢ an_op → kind ≢ a_jz → kind ≢ a_load → work ≡ Store (first_at ts p) (second_at ts p)
  work-store a b c d = rw (ne_eqb kind a_value a, ne_eqb kind an_op b, ne_eqb kind a_jz c, ne_eqb kind a_load d) refl

  -- what holds of each kind and its work holds at a place that has a template
  module _ {n : ℕ} (t : Table n ts) (h : p < n) (P : ℕ → Work → Type 0)
      (v : P a_value (Done (tag_at ts p) (value_at ts p)))
      (o : P an_op (Op (tag_at ts p) (operation_at ts p) (first_at ts p) (second_at ts p)))
      (j : P a_jz (Jz (first_at ts p) (second_at ts p)))
      (l : P a_load (Load (tag_at ts p) (first_at ts p)))
      (s : P a_store (Store (first_at ts p) (second_at ts p))) where
    each : (k : ℕ) → k ≤ a_store → P k (work_by k (head (row_at ts p)) (one (row_at ts p)) (two (row_at ts p)))
    each zero q = v
    each (suc zero) q = o
    each (suc (suc zero)) q = j
    each (suc (suc (suc zero))) q = l
    each (suc (suc (suc (suc zero)))) q = s
    each (suc (suc (suc (suc (suc k))))) q = absurd (omega (arith, q))

    pub by_kind : P kind work
    by_kind = each kind (kind_most t h)
