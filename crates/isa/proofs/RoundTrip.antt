-- Each instruction has exactly one record: what is written is read back, and what is read is written back.
use mathlib.Core.Path.{◌≡◌, refl, sym, ap, ◌∙◌}
use Prim.Native.Nat.{ℕ, ◌%◌, ◌^◌, ◌<◌}
use native.Mathlib.Omega.{arith}
use mathlib.Core.Bool.{Bool, true, false, cond, ◌&&◌}
use mathlib.Core.List.{List, [], ◌∷◌, append-nil}
use lib.Dec.{eqb, leb}
use lib.ListN.{length, get_or}
use borrow.Author.Tests.{eqb-true}
use Rattle.records.specs.declared.Record.{Record}
use Rattle.records.specs.declared.Refusal.TheVariants.{BadLength, BadInstruction}
use Rattle.std.specs.Prelude.{Result, Ok, Err}
use Rattle.records.specs.declared.Refusal.{Refusal}
use Rattle.records.specs.Records.{record_from, records, bytes, image}
use Rattle.records.proofs.Basics.{both, got_not_fails}
use Rattle.records.proofs.Bytes.{record_of-bytes}
use Rattle.records.proofs.Image.{image-records}
use Rattle.isa.proofs.Answers.{only_record}
use Rattle.isa.specs.declared.Instr.{Instr}
use Rattle.isa.specs.declared.Instr.TheVariants.{Loadc, Loadpc, Op, Jz, Load, Store}
use Rattle.isa.specs.Instruction.{reg, last_operation, is_reg, is_formed, if_formed, parse, spelled, record_of, read_of}

-- ---- a record and its instruction

pub parse-record : (i : Instr) → is_formed i ≡ true → parse (record_of i) ≡ Ok i
unfolding parse
parse-record (Loadc r k) f = rw f refl
parse-record (Loadpc r) f = rw f refl
parse-record (Op r n r1 r2) f = rw f refl
parse-record (Jz r1 r2) f = rw f refl
parse-record (Load r r1) f = rw f refl
parse-record (Store r1 r2) f = rw f refl

-- the zero bytes, the form, and the instruction
accepted : (unused : Bool) (j i : Instr) → if_formed unused j ≡ Ok i → (unused ≡ true) × (is_formed j ≡ true) × (j ≡ i)
accepted unused j i e = go (unused && is_formed j) refl e
  where
    go : (t : Bool) → unused && is_formed j ≡ t → cond t (Ok j) (Err BadInstruction) ≡ Ok i → (unused ≡ true) × (is_formed j ≡ true) × (j ≡ i)
    go true f e = let p = both unused (is_formed j) f in (p.0, p.1, cc)
    go false f e = got_not_fails e

-- the instruction of a record is well formed, and has that record
pub record Parsed (r : Record) (i : Instr) : Type 0 where
  pub formed : is_formed i ≡ true
  pub same : record_of i ≡ r

parsed : {r : Record} (unused : Bool) (j i : Instr) → if_formed unused j ≡ Ok i → (unused ≡ true → record_of j ≡ r) → Parsed r i
parsed unused j i e same =
    let a = accepted unused j i e in
    record { formed = ap is_formed (sym a.2) ∙ a.1; same = ap record_of (sym a.2) ∙ same a.0 }

either : {P : Type 0} (t : Bool) (a b : Result Instr Refusal) (i : Instr) → (t ≡ true → a ≡ Ok i → P) → (b ≡ Ok i → P) → cond t a b ≡ Ok i → P
either true a b i f g e = f refl e
either false a b i f g e = g e

fields : {r : Record} {x0 x1 x2 x3 w : ℕ} → r.b0 ≡ x0 → r.b1 ≡ x1 → r.b2 ≡ x2 → r.b3 ≡ x3 → r.word ≡ w
    → record { b0 = x0; b1 = x1; b2 = x2; b3 = x3; word = w } ≡ r
fields e0 e1 e2 e3 e = λ i. record { b0 = sym e0 i; b1 = sym e1 i; b2 = sym e2 i; b3 = sym e3 i; word = sym e i }

zero_is : {n : ℕ} → eqb n 0 ≡ true → n ≡ 0
zero_is {n} e = eqb-true n 0 e

module _ (r : Record) (i : Instr) where
  abbrev b1 : ℕ
  b1 = r.b1

  abbrev b2 : ℕ
  b2 = r.b2

  abbrev b3 : ℕ
  b3 = r.b3

  abbrev k : ℕ
  k = r.word

  abbrev no : ℕ → Bool
  no n = eqb n 0

  abbrev code : ℕ → Bool
  code n = eqb r.b0 n

  is : (n : ℕ) → code n ≡ true → r.b0 ≡ n
  is n e = eqb-true r.b0 n e

  pub record-parsed : parse r ≡ Ok i → Parsed r i
  unfolding parse
  record-parsed =
      either (code 1) _ _ i
      (λ c e. parsed (no b2 && no b3) (Loadc (reg b1) k) i e (λ u. let z = both (no b2) (no b3) u in fields (is 1 c) refl (zero_is z.0) (zero_is z.1) refl))
      (either (code 2) _ _ i
      (λ c e. parsed (no b2 && no b3 && no k) (Loadpc (reg b1)) i e (λ u. let y = both (no b2 && no b3) (no k) u in let z = both (no b2) (no b3) y.0 in fields (is 2 c) refl (zero_is z.0) (zero_is z.1) (zero_is y.1)))
      (either (code 3) _ _ i
      (λ c e. parsed true (Op (reg b1) k (reg b2) (reg b3)) i e (λ u. fields (is 3 c) refl refl refl refl))
      (either (code 4) _ _ i
      (λ c e. parsed (no b1 && no k) (Jz (reg b2) (reg b3)) i e (λ u. let z = both (no b1) (no k) u in fields (is 4 c) (zero_is z.0) refl refl (zero_is z.1)))
      (either (code 5) _ _ i
      (λ c e. parsed (no b3 && no k) (Load (reg b1) (reg b2)) i e (λ u. let z = both (no b3) (no k) u in fields (is 5 c) refl refl (zero_is z.0) (zero_is z.1)))
      (either (code 6) _ _ i
      (λ c e. parsed (no b1 && no k) (Store (reg b2) (reg b3)) i e (λ u. let z = both (no b1) (no k) u in fields (is 6 c) (zero_is z.0) refl refl (zero_is z.1)))
      got_not_fails)))))

-- an instruction's record spells it
spelled-record : (i : Instr) → is_formed i ≡ true → spelled (record_of i) ≡ Ok i
unfolding spelled
spelled-record (Loadc r k) f = refl
spelled-record (Loadpc r) f = refl
spelled-record (Op r n r1 r2) f =
    rw (both (is_reg r && is_reg r1 && is_reg r2) (leb n last_operation) f).1 refl
spelled-record (Jz r1 r2) f = refl
spelled-record (Load r r1) f = refl
spelled-record (Store r1 r2) f = refl

pub record_spells : (r : Record) (i : Instr) → parse r ≡ Ok i → spelled r ≡ Ok i
record_spells r i e =
    let p = record-parsed r i e in
    ap spelled (sym p.same) ∙ spelled-record i p.formed

-- ---- bytes and instruction

pub read-written : (i : Instr) → is_formed i ≡ true → (record_of i).word < 2 ^ 32 → read_of (bytes (record_of i)) ≡ Ok i
unfolding read_of
read-written i f h = ap parse (record_of-bytes (record_of i) h) ∙ parse-record i f

pub written_read : (b : List ℕ) (i : Instr) → ((k : ℕ) → get_or b k 0 < 256) → read_of b ≡ Ok i → bytes (record_of i) ≡ b
unfolding read_of
written_read b i small e = eight-bytes (eqb (length b) 8) refl e
  where
    eight-bytes : (t : Bool) → eqb (length b) 8 ≡ t → cond t (parse (record_from b 0)) (Err BadLength) ≡ Ok i → bytes (record_of i) ≡ b
    eight-bytes true f e =
        let is-eight : length b ≡ 8 = eqb-true (length b) 8 f in
        let whole : length b % 8 ≡ 0 = omega arith in
        let one : records b ≡ record_from b 0 ∷ [] = only_record b is-eight in
        ap bytes (record-parsed (record_from b 0) i e).same
        ∙ sym (append-nil (bytes (record_from b 0)))
        ∙ ap image (sym one)
        ∙ image-records b small whole
    eight-bytes false f e = got_not_fails e

-- so two records of one instruction are the same
pub one-record : (b c : List ℕ) (i : Instr) → ((k : ℕ) → get_or b k 0 < 256) → ((k : ℕ) → get_or c k 0 < 256) → read_of b ≡ Ok i → read_of c ≡ Ok i → b ≡ c
one-record b c i small_b small-c e f = sym (written_read b i small_b e) ∙ written_read c i small-c f
