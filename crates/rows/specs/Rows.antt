-- A template as a row of three numbers, its head and its operands; and what is found and done on rows.
use Rattle.std.specs.Prelude.{ℕ, suc, ◌+◌, ◌-◌, ◌*◌, ◌/◌, ◌%◌, Bool, cond, ◌||◌, not, List, [], ◌∷◌, ◌++◌, map, eqb, ltb, leb, length, get_or, take, drop}
use Rattle.value.specs.declared.Value.{Value}
use Rattle.value.specs.declared.Value.TheVariants.{Undefined, Word}
use Rattle.isa.specs.declared.InstrAddr.{InstrAddr}
use Rattle.isa.specs.declared.Tag.{Tag}
use Rattle.templates.specs.declared.Operand.{Operand}
use Rattle.templates.specs.declared.Operand.TheVariants.{Known, Waits}
use Rattle.templates.specs.declared.Work.{Work}
use Rattle.templates.specs.declared.Work.TheVariants.{Done, Op, Jz, Load, Store}
use Rattle.templates.specs.Templates.{no_tag, any}
use Rattle.templates.specs.Machine.{Itb, ITB}

-- ---- an operand is one number: a word is itself, 2^32 is undefined, and behind it stand the tags

abbrev pub no_word : ℕ
no_word = 4294967296

abbrev pub waiting : Tag → ℕ
waiting t = 4294967297 + t.0

abbrev pub value_number : Value → ℕ
value_number Undefined = no_word
value_number (Word w) = w

abbrev pub number : Operand → ℕ
number (Known v) = value_number v
number (Waits t) = waiting t

-- ---- and read back

abbrev pub value_of : ℕ → Value
value_of k = cond (ltb k no_word) (Word k) Undefined

abbrev pub operand_of : ℕ → Operand
operand_of k = cond (leb k no_word) (Known (value_of k)) (Waits (record { 0 = (k - 4294967297) % 256 }))

-- ---- a row: a head, which says kind, operation, tag and address, and two operands; a value stands as the first

abbrev pub Row : Type 0
Row = List ℕ

-- the kinds
abbrev pub a_value : ℕ
a_value = 0

abbrev pub an_op : ℕ
an_op = 1

abbrev pub a_jz : ℕ
a_jz = 2

abbrev pub a_load : ℕ
a_load = 3

abbrev pub a_store : ℕ
a_store = 4

abbrev pub head_of : ℕ → ℕ → Tag → InstrAddr → ℕ
head_of kind op t a = kind + 8 * op + 2048 * t.0 + 4294967296 * a.0

abbrev pub row_by : InstrAddr → Work → Row
row_by a (Done t v) = head_of a_value 0 t a ∷ value_number v ∷ no_word ∷ []
row_by a (Op t n x y) = head_of an_op n t a ∷ number x ∷ number y ∷ []
row_by a (Jz x y) = head_of a_jz 0 no_tag a ∷ number x ∷ number y ∷ []
row_by a (Load t x) = head_of a_load 0 t a ∷ number x ∷ no_word ∷ []
row_by a (Store x y) = head_of a_store 0 no_tag a ∷ number x ∷ number y ∷ []

abbrev pub row_of : Itb → Row
row_of x = row_by x.address x.work

-- no template: the blank's row
abbrev pub blank_row : Row
blank_row = 0 ∷ no_word ∷ no_word ∷ []

-- ---- and read back

abbrev pub head : Row → ℕ
head x = get_or x 0 0

abbrev pub one : Row → ℕ
one x = get_or x 1 0

abbrev pub two : Row → ℕ
two x = get_or x 2 0

abbrev pub kind_of : ℕ → ℕ
kind_of h = h % 8

abbrev pub operation_of : ℕ → ℕ
operation_of h = h / 8 % 256

abbrev pub tag_of : ℕ → Tag
tag_of h = record { 0 = h / 2048 % 256 }

abbrev pub address_of : ℕ → InstrAddr
address_of h = record { 0 = h / 4294967296 % 4294967296 }

-- the work of a kind
abbrev pub work_by : ℕ → ℕ → ℕ → ℕ → Work
work_by kind h a b =
    cond (eqb kind a_value) (Done (tag_of h) (value_of a))
    (cond (eqb kind an_op) (Op (tag_of h) (operation_of h) (operand_of a) (operand_of b))
    (cond (eqb kind a_jz) (Jz (operand_of a) (operand_of b))
    (cond (eqb kind a_load) (Load (tag_of h) (operand_of a))
    (Store (operand_of a) (operand_of b)))))

-- the template that a row stands for
abbrev pub itb_of : Row → Itb
itb_of x = ITB (address_of (head x)) (work_by (kind_of (head x)) (head x) (one x) (two x))

-- ---- at a place; where there is none it is the blank's

abbrev pub row_at : List Row → ℕ → Row
row_at ts p = get_or ts p blank_row

abbrev pub kind_at : List Row → ℕ → ℕ
kind_at ts p = kind_of (head (row_at ts p))

abbrev pub operation_at : List Row → ℕ → ℕ
operation_at ts p = operation_of (head (row_at ts p))

abbrev pub tag_at : List Row → ℕ → Tag
tag_at ts p = tag_of (head (row_at ts p))

abbrev pub address_at : List Row → ℕ → InstrAddr
address_at ts p = address_of (head (row_at ts p))

abbrev pub value_at : List Row → ℕ → Value
value_at ts p = value_of (one (row_at ts p))

abbrev pub first_at : List Row → ℕ → Operand
first_at ts p = operand_of (one (row_at ts p))

abbrev pub second_at : List Row → ℕ → Operand
second_at ts p = operand_of (two (row_at ts p))

-- a register that is none is undefined
abbrev pub number_at : List ℕ → ℕ → ℕ
number_at rf i = get_or rf i no_word

abbrev pub contents_at : List ℕ → ℕ → Operand
contents_at rf i = operand_of (number_at rf i)

-- ---- searches: holding a tag is an equality of numbers

abbrev pub holds_row : ℕ → Row → Bool
holds_row k x = eqb (one x) k || eqb (two x) k

-- of the first n, behind place p, one holds the tag that the one at p makes
abbrev pub held_behind : ℕ → ℕ → List Row → Bool
held_behind n p ts = any (holds_row (waiting (tag_at ts p))) (drop (suc p) (take n ts))

abbrev pub memory_before : ℕ → List Row → Bool
memory_before n ts = any (λ x. leb a_load (kind_of (head x))) (take n ts)

abbrev pub produced_in : ℕ → Tag → List Row → Bool
produced_in n t ts = any (λ x. eqb (tag_of (head x)).0 t.0) (take n ts)

abbrev pub in_register : Tag → List ℕ → Bool
in_register t rf = any (λ k. eqb k (waiting t)) rf

-- another row than the blank's
abbrev pub is_filled : Row → Bool
is_filled x = not (eqb (head x) 0) || (not (eqb (one x) no_word) || not (eqb (two x) no_word))

abbrev pub filled_from : ℕ → List Row → Bool
filled_from n ts = any is_filled (drop n ts)

-- ---- changes

-- the first n places changed, the others as they were
abbrev pub among : {A : Type 0} → ℕ → (List A → List A) → List A → List A
among n f xs = f (take n xs) ++ drop n xs

-- every place from i on changed by f
abbrev pub map_from : {A : Type 0} → (A → A) → ℕ → List A → List A
map_from f i xs = take i xs ++ map f (drop i xs)

abbrev pub fill_number : ℕ → ℕ → ℕ → ℕ
fill_number k v x = cond (eqb x k) v x

abbrev pub fill_row : ℕ → ℕ → Row → Row
fill_row k v x = head x ∷ fill_number k v (one x) ∷ fill_number k v (two x) ∷ []

-- the value at place p filled in for its tag, behind it; a place that is none fills nothing
abbrev pub filled_behind : ℕ → ℕ → List Row → List Row
filled_behind n p ts = cond (ltb p (length (take n ts))) (among n (map_from (fill_row (waiting (tag_at ts p)) (one (row_at ts p))) (suc p)) ts) ts

-- the row at place p gone: later ones move down one place, and the blank comes in at the end
abbrev pub without_at : ℕ → List Row → List Row
without_at p ts = take p ts ++ (drop (suc p) ts ++ blank_row ∷ [])

-- a place that is none leaves them
abbrev pub without : ℕ → ℕ → List Row → List Row
without n p ts = cond (ltb p (length (take n ts))) (among n (without_at p) ts) ts
