-- What is found and done on the first n rows is found and done on the templates that they show; and the same of registers.
use mathlib.Core.Path.{◌≡◌, refl, sym, ap, ap₂, subst, ◌∙◌}
use Prim.Native.Nat.{ℕ, zero, suc, ◌+◌, ◌-◌, ◌≤◌, ◌<◌}
use native.Mathlib.Numerals.{add-one}
use native.Mathlib.Omega.{arith}
use mathlib.Core.Bool.{Bool, ◌||◌}
use mathlib.Core.List.{List, [], ◌∷◌, ◌++◌, map, append_assoc, map-append}
use lib.Dec.{eqb, leb}
use lib.ListN.{length, get_or, set, take, drop, replicate, length-map, length-set, length-take, length-append, length-drop, get_or-map}
use lib.Seq.{length-take-le, get_or-take, take_at, take-append-add, take-append_seam, take-set-lt, take-suc-set, set_split, take-take, take-suc, take_all}
use borrow.Author.Tests.{lt-ltb}
use Rattle.value.specs.declared.Value.{Value}
use Rattle.value.specs.Operation.{undefined}
use Rattle.isa.specs.Instruction.{registers}
use Rattle.isa.specs.declared.Reg.{Reg}
use Rattle.isa.specs.declared.Tag.{Tag}
use Rattle.templates.specs.declared.Operand.{Operand}
use Rattle.templates.specs.declared.Operand.TheVariants.{Known}
use Rattle.templates.specs.declared.Register.{Register}
use Rattle.templates.specs.declared.Template.{Template}
use Rattle.templates.specs.declared.Work.TheVariants.{Done}
use Rattle.templates.specs.Templates.{any, waits, register, put, any_reg, fill, fill_regs, same_tag}
use Rattle.templates.specs.Machine.{Itb, ITB, nothing, any_holds, any_makes, any_memory, fill_all, fill_itb}
use Rattle.templates.specs.Layout.{places, template, blank, itb, lay, itbs}
use Rattle.rows.specs.Rows.{Row, a_load, a_store, no_word, waiting, value_number, number, operand_of, contents_at, row_of, itb_of, head, one, kind_of, tag_of, blank_row, row_at, kind_at, tag_at, held_behind, memory_before, produced_in, in_register, holds_row, map_from, fill_row, fill_number, filled_behind, without}
use Rattle.rows.specs.Shown.{held_of, regs_of, numbers_of, Table, File, laid, laid_templates, laid_registers}
use Rattle.rows.specs.Answers.{SmallValue, SmallOperand, Small, All, Finishes, Fills, Holds, Puts, TurnsRegisters, TurnsTemplates}
use Rattle.rows.proofs.Coding.{operand_back, operand_small, row_back, row_small, waits-number, holds_row_lem, fill_number_lem, fill-small, fill_row_lem, fill_itb-small, kind_row, memory-row, made_row}

-- ---- each of a list

module _ {A : Type 0} (P : A → Type 0) where
  pub all_take : (n : ℕ) (xs : List A) → All P xs → All P (take n xs)
  all_take zero xs s = tt
  all_take (suc n) [] s = tt
  all_take (suc n) (x ∷ xs) s = (s.0, all_take n xs s.1)

  pub all_drop : (n : ℕ) (xs : List A) → All P xs → All P (drop n xs)
  all_drop zero xs s = s
  all_drop (suc n) [] s = tt
  all_drop (suc n) (x ∷ xs) s = all_drop n xs s.1

  pub all_join : (xs ys : List A) → All P xs → All P ys → All P (xs ++ ys)
  all_join [] ys s r = r
  all_join (x ∷ xs) ys s r = (s.0, all_join xs ys s.1 r)

  pub all_map : {B : Type 0} (Q : B → Type 0) (f : A → B) → ((x : A) → P x → Q (f x)) → (xs : List A) → All P xs → All Q (map f xs)
  all_map Q f h [] s = tt
  all_map Q f h (x ∷ xs) s = (h x s.0, all_map Q f h xs s.1)

-- ---- maps

module _ {A B : Type 0} (f : A → B) where
  pub map-take : (n : ℕ) (xs : List A) → map f (take n xs) ≡ take n (map f xs)
  map-take zero xs = refl
  map-take (suc n) [] = refl
  map-take (suc n) (x ∷ xs) = ap (λ ys. f x ∷ ys) (map-take n xs)

  pub map-drop : (n : ℕ) (xs : List A) → map f (drop n xs) ≡ drop n (map f xs)
  map-drop zero xs = refl
  map-drop (suc n) [] = refl
  map-drop (suc n) (x ∷ xs) = map-drop n xs

  pub map_at : (xs : List A) (p : ℕ) (d : A) (e : B) → p < length xs → get_or (map f xs) p e ≡ f (get_or xs p d)
  map_at [] p d e h = absurd (omega (arith, h))
  map_at (x ∷ xs) zero d e h = refl
  map_at (x ∷ xs) (suc p) d e h = map_at xs p d e (omega (arith, h))

-- two maps that agree on each
pub map_same : {A B : Type 0} (P : A → Type 0) (f g : A → B) → ((x : A) → P x → f x ≡ g x) → (xs : List A) → All P xs → map f xs ≡ map g xs
map_same P f g h [] s = refl
map_same P f g h (x ∷ xs) s = ap₂ ◌∷◌ (h x s.0) (map_same P f g h xs s.1)

map-map : {A B C : Type 0} (f : A → B) (g : B → C) (xs : List A) → map g (map f xs) ≡ map (λ x. g (f x)) xs
map-map f g [] = refl
map-map f g (x ∷ xs) = ap (λ ys. g (f x) ∷ ys) (map-map f g xs)

any_same : {A B : Type 0} (P : A → Type 0) (f : A → B) (q : B → Bool) (r : A → Bool) → ((x : A) → P x → q (f x) ≡ r x) → (xs : List A) → All P xs → any q (map f xs) ≡ any r xs
any_same P f q r h [] s = refl
any_same P f q r h (x ∷ xs) s = ap₂ ◌||◌ (h x s.0) (any_same P f q r h xs s.1)

-- ---- rows that are the codes of templates show them

pub coded_shown : (xs : List Itb) → All Small xs → map itb_of (map row_of xs) ≡ xs
coded_shown [] s = refl
coded_shown (x ∷ xs) s = ap₂ ◌∷◌ (row_back x s.0) (coded_shown xs s.1)

-- the first n rows are the codes of the templates xs
pub record Shows (n : ℕ) (ts : List Row) (xs : List Itb) : Type 0 where
  pub rows : take n ts ≡ map row_of xs
  pub small : All Small xs

small_rows : (ts : List Row) → All Small (map itb_of ts)
small_rows [] = tt
small_rows (x ∷ ts) = (row_small x, small_rows ts)

module _ {n : ℕ} {ts : List Row} where
  pub shows : Table n ts → Shows n ts (held_of n ts)
  shows t = record { rows = sym t.plain; small = small_rows (take n ts) }

  module _ {xs : List Itb} (s : Shows n ts xs) where
    pub shown : held_of n ts ≡ xs
    shown = ap (map itb_of) s.rows ∙ coded_shown xs s.small

    pub tabled : length ts ≡ places → n ≤ places → Table n ts
    tabled l f = record { long = l; few = f; plain = ap (map row_of) shown ∙ sym s.rows }

-- ---- the table

pub held_size : (n : ℕ) (ts : List Row) → n ≤ length ts → length (held_of n ts) ≡ n
held_size n ts h = length-map (take n ts) itb_of ∙ length-take-le n ts h

pub at_shown : (n : ℕ) (ts : List Row) (i : ℕ) → i < n → n ≤ length ts → get_or (held_of n ts) i nothing ≡ itb_of (row_at ts i)
at_shown n ts i l h = map_at itb_of (take n ts) i blank_row nothing (omega (arith, length-take-le n ts h, l)) ∙ ap itb_of (get_or-take n ts i blank_row l)

module _ {n : ℕ} {ts : List Row} (t : Table n ts) where
  abbrev held : List Itb
  held = held_of n ts

  abbrev coded : take n ts ≡ map row_of held
  coded = sym t.plain

  abbrev small : All Small held
  small = small_rows (take n ts)

  pub first_long : length (take n ts) ≡ n
  first_long = length-take-le n ts (omega (arith, t.long, t.few))

  pub held_long : length held ≡ n
  held_long = held_size n ts (omega (arith, t.long, t.few))

  -- ---- at a place
  module _ {p : ℕ} (h : p < n) where
    pub here : itb_of (row_at ts p) ≡ get_or held p nothing
    here = sym (at_shown n ts p h (omega (arith, t.long, t.few)))

    pub row_here : row_at ts p ≡ row_of (itb_of (row_at ts p))
    row_here =
        sym (get_or-take n ts p blank_row h)
        ∙ ap (λ (xs : List Row). get_or xs p blank_row) coded
        ∙ map_at row_of held p nothing blank_row (omega (arith, held_long))
        ∙ ap row_of (sym here)

    pub here-small : Small (itb_of (row_at ts p))
    here-small = row_small (row_at ts p)

    pub kind_most : kind_at ts p ≤ a_store
    kind_most = rw row_here (kind_row (itb_of (row_at ts p)) here-small)

    -- ---- a search behind it
    pub searched : held_behind n p ts ≡ any_holds (tag_at ts p) (drop (suc p) held)
    searched =
        let tag = tag_at ts p in
        ap (λ (xs : List Row). any (holds_row (waiting tag)) (drop (suc p) xs)) coded
        ∙ ap (any (holds_row (waiting tag))) (sym (map-drop row_of (suc p) held))
        ∙ any_same Small row_of (holds_row (waiting tag)) _ (λ x s. holds_row_lem tag x s) (drop (suc p) held) (all_drop Small (suc p) held small)

    pub searched_memory : memory_before p ts ≡ any_memory (take p held)
    searched_memory =
        let less : p ≤ n = omega arith in
        ap (any _) (sym (take-take p n ts less) ∙ ap (take p) coded ∙ sym (map-take row_of p held))
        ∙ any_same Small row_of (λ x. leb a_load (kind_of (head x))) _ memory-row (take p held) (all_take Small p held small)

  pub searched_makes : (u : Tag) → produced_in n u ts ≡ any_makes u held
  searched_makes u =
      ap (any _) coded
      ∙ any_same Small row_of (λ x. eqb (tag_of (head x)).0 u.0) _ (λ x s. ap (λ (v : Tag). same_tag v u) (made_row x s)) held small

-- ---- the rows after a change are the codes of the templates after it

length-map_from : {A : Type 0} (f : A → A) (i : ℕ) (xs : List A) → length (map_from f i xs) ≡ length xs
length-map_from f zero xs = length-map xs f
length-map_from f (suc i) [] = refl
length-map_from f (suc i) (x ∷ xs) = ap suc (length-map_from f i xs)

module _ {n : ℕ} {ts : List Row} (t : Table n ts) where
  abbrev in_table : Shows n ts (held_of n ts)
  in_table = shows t

  -- behind place p its value is filled in
  module _ {p : ℕ} (h : p < n) {v : Value} (e : (itb_of (row_at ts p)).work ≡ Done (tag_at ts p) v) where
    abbrev here-done : Itb
    here-done = ITB (itb_of (row_at ts p)).address (Done (tag_at ts p) v)

    is_here : row_at ts p ≡ row_of here-done
    is_here = row_here t h ∙ ap (λ w. row_of (ITB (itb_of (row_at ts p)).address w)) e

    value-here : SmallValue v
    value-here = (subst Small (ap (ITB (itb_of (row_at ts p)).address) e) (row_small (row_at ts p))).1.1

    abbrev filled : List Itb
    filled = take (suc p) (held_of n ts) ++ fill_all (tag_at ts p) v (drop (suc p) (held_of n ts))

    all-filled : All Small filled
    all-filled =
        let held = held_of n ts in
        all_join Small (take (suc p) held) (fill_all (tag_at ts p) v (drop (suc p) held)) (all_take Small (suc p) held in_table.small)
        (all_map Small Small (fill_itb (tag_at ts p) v) (fill_itb-small (tag_at ts p) v value-here) (drop (suc p) held) (all_drop Small (suc p) held in_table.small))

    filled_rows : map_from (fill_row (waiting (tag_at ts p)) (value_number v)) (suc p) (take n ts) ≡ map row_of filled
    filled_rows =
        let f = fill_row (waiting (tag_at ts p)) (value_number v) in
        let held = held_of n ts in
        ap (map_from f (suc p)) in_table.rows
        ∙ ap₂ ◌++◌ (sym (map-take row_of (suc p) held))
        (ap (map f) (sym (map-drop row_of (suc p) held))
        ∙ map-map row_of f (drop (suc p) held)
        ∙ map_same Small (λ x. f (row_of x)) (λ x. row_of (fill_itb (tag_at ts p) v x)) (fill_row_lem (tag_at ts p) v) (drop (suc p) held) (all_drop Small (suc p) held in_table.small)
        ∙ sym (map-map (fill_itb (tag_at ts p) v) row_of (drop (suc p) held)))
        ∙ sym (map-append row_of (take (suc p) held) (fill_all (tag_at ts p) v (drop (suc p) held)))

    pub fills : Shows n (filled_behind n p ts) filled
    fills =
        let f = fill_row (waiting (tag_at ts p)) (one (row_at ts p)) in
        let same : one (row_at ts p) ≡ value_number v = ap one is_here in
        record {
          rows =
              rw (lt-ltb p (length (take n ts)) (omega (arith, first_long t)))
              (take_at (map_from f (suc p) (take n ts)) (drop n ts) n (length-map_from f (suc p) (take n ts) ∙ first_long t)
              ∙ ap (λ (w : ℕ). map_from (fill_row (waiting (tag_at ts p)) w) (suc p) (take n ts)) same
              ∙ filled_rows);
          small = all-filled;
        }

    pub fills_long : length (filled_behind n p ts) ≡ places
    fills_long =
        let f = fill_row (waiting (tag_at ts p)) (one (row_at ts p)) in
        rw (lt-ltb p (length (take n ts)) (omega (arith, first_long t)))
        (length-append (map_from f (suc p) (take n ts)) (drop n ts) ∙ ap₂ ◌+◌ (length-map_from f (suc p) (take n ts) ∙ first_long t) (length-drop n ts) ∙ omega (arith, t.long, t.few))

  -- the template at place p is gone
  module _ {p : ℕ} (h : p < n) where
    abbrev left : List Itb
    left = take p (held_of n ts) ++ drop (suc p) (held_of n ts)

    left_rows : take p (take n ts) ++ drop (suc p) (take n ts) ≡ map row_of left
    left_rows =
        let held = held_of n ts in
        ap (λ (xs : List Row). take p xs ++ drop (suc p) xs) in_table.rows
        ∙ ap₂ ◌++◌ (sym (map-take row_of p held)) (sym (map-drop row_of (suc p) held))
        ∙ sym (map-append row_of (take p held) (drop (suc p) held))

    left_long : length (take p (take n ts) ++ drop (suc p) (take n ts)) ≡ n - 1
    left_long = ap length left_rows ∙ length-map left row_of ∙ length-append (take p (held_of n ts)) (drop (suc p) (held_of n ts)) ∙ omega (arith, length-take p (held_of n ts), length-drop (suc p) (held_of n ts), held_long t)

    open_up : without n p ts ≡ (take p (take n ts) ++ drop (suc p) (take n ts)) ++ (blank_row ∷ drop n ts)
    open_up =
        rw (lt-ltb p (length (take n ts)) (omega (arith, first_long t)))
        (ap (λ (xs : List Row). xs ++ drop n ts) (sym (append_assoc (take p (take n ts)) (drop (suc p) (take n ts)) (blank_row ∷ [])))
        ∙ append_assoc (take p (take n ts) ++ drop (suc p) (take n ts)) (blank_row ∷ []) (drop n ts))

    pub leaves : Shows (n - 1) (without n p ts) left
    leaves =
        record {
          rows = ap (take (n - 1)) open_up ∙ take_at (take p (take n ts) ++ drop (suc p) (take n ts)) (blank_row ∷ drop n ts) (n - 1) left_long ∙ left_rows;
          small = all_join Small (take p (held_of n ts)) (drop (suc p) (held_of n ts)) (all_take Small p (held_of n ts) in_table.small) (all_drop Small (suc p) (held_of n ts) in_table.small);
        }

    pub leaves_long : length (without n p ts) ≡ places
    leaves_long = ap length open_up ∙ length-append (take p (take n ts) ++ drop (suc p) (take n ts)) (blank_row ∷ drop n ts) ∙ omega (arith, left_long, length-drop n ts, t.long, t.few)

    -- it becomes a value template
    module _ {v : Value} {ts' : List Row} (f : Finishes p v ts ts') where
      abbrev ended : Itb
      ended = ITB (itb_of (row_at ts p)).address (Done (tag_at ts p) v)

      abbrev ends : List Itb
      ends = take p (held_of n ts) ++ ended ∷ drop (suc p) (held_of n ts)

      pub finishes : Shows n ts' ends
      finishes =
          let held = held_of n ts in
          record {
            rows =
                ap (take n) f.rows ∙ take-set-lt n ts p (row_of ended) h ∙ ap (λ (xs : List Row). set xs p (row_of ended)) in_table.rows
                ∙ set_split (map row_of held) p (row_of ended) (omega (arith, length-map held row_of, held_long t))
                ∙ ap₂ ◌++◌ (sym (map-take row_of p held)) (ap (λ (xs : List Row). row_of ended ∷ xs) (sym (map-drop row_of (suc p) held)))
                ∙ sym (map-append row_of (take p held) (ended ∷ drop (suc p) held));
            small = all_join Small (take p held) (ended ∷ drop (suc p) held) (all_take Small p held in_table.small) (f.small, all_drop Small (suc p) held in_table.small);
          }

      pub finishes_long : length ts' ≡ places
      finishes_long = ap length f.rows ∙ length-set ts p (row_of ended) ∙ t.long

-- ---- registers

abbrev SmallRegister : Register → Type 0
SmallRegister r = SmallOperand r.holds

-- the numbers are the codes of the registers rs
pub record Lists (rf : List ℕ) (rs : List Register) : Type 0 where
  pub numbers : rf ≡ numbers_of rs
  pub small : All SmallRegister rs

small-registers : (rf : List ℕ) → All SmallRegister (regs_of rf)
small-registers [] = tt
small-registers (k ∷ rf) = (operand_small k, small-registers rf)

registers_back : (rs : List Register) → All SmallRegister rs → regs_of (numbers_of rs) ≡ rs
registers_back [] s = refl
registers_back (r ∷ rs) s = ap₂ ◌∷◌ (ap register (operand_back r.holds s.0)) (registers_back rs s.1)

module _ {rf : List ℕ} where
  pub lists : File rf → Lists rf (regs_of rf)
  lists f = record { numbers = sym f.plain; small = small-registers rf }

  module _ {rs : List Register} (l : Lists rf rs) where
    pub listed : regs_of rf ≡ rs
    listed = ap regs_of l.numbers ∙ registers_back rs l.small

    pub filed : length rf ≡ registers → File rf
    filed e = record { long = e; plain = ap numbers_of listed ∙ sym l.numbers }

map-set : {A B : Type 0} (f : A → B) (xs : List A) (i : ℕ) (x : A) → map f (set xs i x) ≡ set (map f xs) i (f x)
map-set f [] i x = refl
map-set f (y ∷ ys) zero x = refl
map-set f (y ∷ ys) (suc i) x = ap (λ zs. f y ∷ zs) (map-set f ys i x)

all_set : {A : Type 0} (P : A → Type 0) (xs : List A) (i : ℕ) (x : A) → P x → All P xs → All P (set xs i x)
all_set P [] i x h s = tt
all_set P (y ∷ ys) zero x h s = (h, s.1)
all_set P (y ∷ ys) (suc i) x h s = (s.0, all_set P ys i x h s.1)

any-register : (t : Tag) (rs : List Register) → All SmallRegister rs → any (λ k. eqb k (waiting t)) (numbers_of rs) ≡ any_reg t rs
any-register t rs s = any_same SmallRegister (λ r. number r.holds) (λ k. eqb k (waiting t)) (λ r. waits t r.holds) (λ r h. waits-number t r.holds h) rs s

module _ {rf : List ℕ} (f : File rf) where
  abbrev rs : List Register
  rs = regs_of rf

  pub searched_registers : (t : Tag) → in_register t rf ≡ any_reg t rs
  searched_registers t = ap (any (λ k. eqb k (waiting t))) (lists f).numbers ∙ any-register t rs (small-registers rf)

  -- one is set
  module _ {r : Reg} {o : Operand} {rf' : List ℕ} (h : Holds r o rf rf') where
    holds_lists : Lists rf' (put rs r o)
    holds_lists =
        record {
          numbers = h.numbers ∙ ap (λ (ks : List ℕ). set ks r.0 (number o)) (lists f).numbers ∙ sym (map-set (λ (x : Register). number x.holds) rs r.0 (register o));
          small = all_set SmallRegister rs r.0 (register o) h.small (small-registers rf);
        }

    pub held-listed : regs_of rf' ≡ put rs r o
    held-listed = listed holds_lists

    pub held_filed : File rf'
    held_filed = filed holds_lists (ap length h.numbers ∙ length-set rf r.0 (number o) ∙ f.long)

  -- a value is filled in
  module _ {t : Tag} {v : Value} {rf' : List ℕ} (h : Fills t v rf rf') where
    fills_lists : Lists rf' (fill_regs t v rs)
    fills_lists =
        record {
          numbers =
              h.numbers ∙ ap (map (fill_number (waiting t) (value_number v))) (lists f).numbers
              ∙ map-map (λ (x : Register). number x.holds) (fill_number (waiting t) (value_number v)) rs
              ∙ map_same SmallRegister (λ x. fill_number (waiting t) (value_number v) (number x.holds)) (λ x. number (fill t v x.holds)) (λ x s. fill_number_lem t v x.holds s) rs (small-registers rf)
              ∙ sym (map-map (λ (x : Register). register (fill t v x.holds)) (λ (x : Register). number x.holds) rs);
          small = all_map SmallRegister SmallRegister (λ x. register (fill t v x.holds)) (λ x s. fill-small t v h.small x.holds s) rs (small-registers rf);
        }

    pub filled-listed : regs_of rf' ≡ fill_regs t v rs
    filled-listed = listed fills_lists

    pub filled_filed : File rf'
    filled_filed = filed fills_lists (ap length h.numbers ∙ length-map rf (fill_number (waiting t) (value_number v)) ∙ f.long)

-- ---- the way in, and the way back

take_replicate : {A : Type 0} (n k : ℕ) (d : A) → n ≤ k → take n (replicate k d) ≡ replicate n d
take_replicate zero k d h = refl
take_replicate (suc n) zero d h = absurd (omega (arith, h))
take_replicate (suc n) (suc k) d h = ap (λ xs. d ∷ xs) (take_replicate n k d (omega (arith, h)))

-- a list that has room, laid out
pub laid_out : {A : Type 0} (k : ℕ) (d : A) (xs : List A) → length xs ≤ k → laid k d xs ≡ xs ++ replicate (k - length xs) d
laid_out k d xs h =
    let all : k ≡ length xs + (k - length xs) = omega arith in
    ap (λ (n : ℕ). take n (xs ++ replicate k d)) all ∙ take-append-add xs (replicate k d) (k - length xs)
    ∙ ap (λ ys. xs ++ ys) (take_replicate (k - length xs) k d (omega arith))

-- of no template
pub shows-none : (ts : List Row) → Shows 0 ts []
shows-none ts = record { rows = refl; small = tt }

-- one more is put
pub shows_more : {i : ℕ} {ts : List Row} {xs : List Itb} → Shows i ts xs → i < length ts → {x : Template} {ts' : List Row} → Puts i x ts ts' → Shows (i + 1) ts' (xs ++ itb x ∷ [])
shows_more {i} {ts} {xs} s h {x} {ts'} u =
    record {
      rows = ap (take (i + 1)) u.rows ∙ rw add-one (take-suc-set ts i (row_of (itb x)) h ∙ ap (λ ys. ys ++ row_of (itb x) ∷ []) s.rows ∙ sym (map-append row_of xs (itb x ∷ [])));
      small = all_join Small xs (itb x ∷ []) s.small (u.small, tt);
    }

-- each of those given is put at its place in turn
module _ (given : List Template) where
  pub turned_more : {i : ℕ} {ts : List Row} → Shows i ts (itbs (take i given)) → i < length ts → i < length given
      → {ts' : List Row} → Puts i (get_or given i blank) ts ts' → Shows (i + 1) ts' (itbs (take (i + 1) given))
  turned_more {i} {ts} s h l {ts'} u =
      subst (Shows (i + 1) ts') (sym (rw add-one (ap itbs (take-suc given i blank l) ∙ map-append itb (take i given) (get_or given i blank ∷ [])))) (shows_more s h u)

  pub turned-whole : length given ≡ places → {i : ℕ} {ts : List Row} → Shows i ts (itbs (take i given)) → i ≡ places → Shows places ts (itbs given)
  turned-whole long {i} {ts} s e =
      subst (λ (xs : List Template). Shows places ts (itbs xs)) (take_all places given (omega (arith, long)))
      (subst (λ (n : ℕ). Shows n ts (itbs (take n given))) e s)

-- the first of them alone
pub shows_fewer : {k : ℕ} {ts : List Row} {xs : List Itb} → Shows k ts xs → (n : ℕ) → n ≤ k → Shows n ts (take n xs)
shows_fewer {k} {ts} {xs} s n h = record { rows = sym (take-take n k ts h) ∙ ap (take n) s.rows ∙ sym (map-take row_of n xs); small = all_take Small n xs s.small }

pub registers_size : (rf : List ℕ) → length (regs_of rf) ≡ length rf
registers_size rf = length-map rf (λ k. register (operand_of k))

pub number_shown : (rs : List Register) (i : ℕ) → get_or (numbers_of rs) i no_word ≡ number (get_or rs i (register (Known undefined))).holds
number_shown rs i = get_or-map (λ (x : Register). number x.holds) rs i (register (Known undefined))

pub register_shown : (rf : List ℕ) (i : ℕ) → get_or (regs_of rf) i (register (Known undefined)) ≡ register (contents_at rf i)
register_shown rf i = get_or-map (λ k. register (operand_of k)) rf i no_word

module _ {rs : List Register} {r : List ℕ} (u : TurnsRegisters rs r) where
  turned_lists : Lists r rs
  turned_lists = record { numbers = u.numbers; small = u.small }

  pub turned-registers : regs_of r ≡ rs
  turned-registers = listed turned_lists

  pub turned-file : File r
  turned-file = filed turned_lists (ap length u.numbers ∙ length-map rs (λ (x : Register). number x.holds) ∙ u.long)

module _ {xs : List Template} {ts : List Row} (u : TurnsTemplates xs ts) where
  pub turned_long : length ts ≡ places
  turned_long = ap length u.rows ∙ length-map (itbs xs) row_of ∙ length-map xs itb ∙ u.long

  pub turned_shows : Shows places ts (itbs xs)
  turned_shows = record { rows = take_all places ts (omega (arith, turned_long)) ∙ u.rows; small = u.small }

pub back_templates : {n : ℕ} {ts : List Row} → Table n ts → laid_templates n ts ≡ lay (held_of n ts)
back_templates {n} {ts} t =
    let held = held_of n ts in
    laid_out places blank (map template held) (omega (arith, length-map held template, held_long t, t.few))
    ∙ ap (λ (k : ℕ). map template held ++ replicate (places - k) blank) (length-map held template)

pub back_registers : {rf : List ℕ} → File rf → laid_registers rf ≡ regs_of rf
back_registers {rf} f =
    let long : length (regs_of rf) ≡ registers = length-map rf (λ k. register (operand_of k)) ∙ f.long in
    ap (λ (n : ℕ). take n (regs_of rf ++ replicate registers (register (Known undefined)))) (sym long) ∙ take-append_seam (regs_of rf) (replicate registers (register (Known undefined)))
