-- What a text leaves: nothing, one byte, a text with no room, and one text after another.
use mathlib.Core.Path.{◌≡◌, refl, sym, ap, ap₂, subst, ◌∙◌}
use Prim.Native.Nat.{ℕ, suc, ◌+◌, ◌-◌, ◌<◌, ◌≤◌, min}
use native.Mathlib.Nat.{add-zero, zero-add}
use native.Mathlib.Omega.{arith, sub_cases}
use mathlib.Core.List.{List, [], ◌∷◌, ◌++◌}
use lib.ListN.{length, take, drop, set, length-append, take-append-drop}
use borrow.Rule.Slice.PartMut.{put_mid}
use lib.Seq.{sets, length-sets, set_out, sets-eq, take_all}
use Rattle.std.proofs.lemmas.List.{append_assoc, drop-drop, length-take-le}
use Rattle.text.specs.Text.{Put, into}

-- ---- a run of stores
module _ {A : Type 0} where
  -- past the end it does nothing
  pub sets_out : (vs l : List A) (i : ℕ) → length l ≤ i → sets l i vs ≡ l
  sets_out [] l i h = refl
  sets_out (a ∷ vs) l i h = rw (set_out l i a h) (sets_out vs l (suc i) (omega arith))

  pub sets_append : (vs ws l : List A) (i : ℕ) → sets l i (vs ++ ws) ≡ sets (sets l i vs) (i + length vs) ws
  sets_append [] ws l i = rw (add-zero i) refl
  sets_append (a ∷ vs) ws l i =
      let e : i + suc (length vs) ≡ suc i + length vs = omega arith in
      rw e (sets_append vs ws (set l i a) (suc i))

  -- where the next run starts
  sets_next : (vs ws l : List A) (i : ℕ) → sets l (i + min (length vs) (length l - i)) ws ≡ sets l (i + length vs) ws
  sets_next vs ws l i =
      sub_cases (length l) (i + length vs) _
      (λ h _. let e : min (length vs) (length l - i) ≡ length vs = omega arith in rw e refl)
      (λ h _. sets_out ws l (i + min (length vs) (length l - i)) (omega arith) ∙ sym (sets_out ws l (i + length vs) (omega arith)))

-- ---- what a text leaves
module _ (b : List ℕ) (at : ℕ) where
  pub put-nothing : Put b at [] at b
  put-nothing = record { next = omega arith; holds = refl }

  pub put_byte : (v : ℕ) → at < length b → Put b at (v ∷ []) (at + 1) (set b at v)
  put_byte v h = record { next = omega arith; holds = refl }

  pub put_full : (t : List ℕ) → length b ≤ at → Put b at t at b
  put_full t h = record { next = omega arith; holds = sym (sets_out t b at h) }

module _ {b : List ℕ} {at : ℕ} {t : List ℕ} {r : ℕ} {b' : List ℕ} (p : Put b at t r b') where
  pub put-length : length b' ≡ length b
  put-length = ap length p.holds ∙ length-sets b at t

  -- the same text, said otherwise
  pub put_as : {u : List ℕ} → t ≡ u → Put b at u r b'
  put_as e = subst (λ (u : List ℕ). Put b at u r b') e p

  -- a second text, right behind the first
  pub puts : {u : List ℕ} {r' : ℕ} {b'' : List ℕ} → Put b' r u r' b'' → Put b at (t ++ u) r' b''
  puts {u} q =
      let same = put-length in
      record {
        next = omega (arith, length-append t u, p.next, q.next);
        holds =
            q.holds ∙ ap₂ (λ (o : List ℕ) (n : ℕ). sets o n u) p.holds p.next
            ∙ ap (λ (n : ℕ). sets (sets b at t) (at + min (length t) (n - at)) u) (sym (length-sets b at t))
            ∙ sets_next t u (sets b at t) at
            ∙ sym (sets_append t u b at);
      }

-- ---- a text that has room, at the buffer's start
pub put-into : {b t : List ℕ} {r : ℕ} {b' : List ℕ} → Put b 0 t r b' → length t ≤ length b → (r ≡ length t) × (b' ≡ into b t)
put-into {b} {t} p h =
    (omega (arith, p.next), p.holds ∙ sets-eq t b 0 (omega arith) ∙ ap (λ (k : ℕ). t ++ drop k b) (zero-add (length t)))

-- ---- as much of a text as has room is copied: its first n, the least that the text and the buffer have
pub put_copied : (b : List ℕ) (at : ℕ) (t : List ℕ) (n k r : ℕ) (m : List ℕ) → at ≤ length b → n ≡ min (length t) (length b - at) → k ≡ n → r ≡ at + n → m ≡ take n t → Put b at t r (put_mid at k b m)
put_copied b at t n k r m h en ek er em =
    let short : n ≤ length t = omega (arith, en) in
    let long : length (take n t) ≡ n = length-take-le n t short in
    let room : at + length (take n t) ≤ length b = omega arith in
    let p : Put b at (take n t) r (put_mid at k b m) = record { next = omega arith; holds = rw (ek, em, drop-drop, sets-eq (take n t) b at room, long, append_assoc) refl } in
    sub_cases (length b) (at + length t) _
    (λ l _. put_as p (take_all n t (omega arith)))
    (λ l _. let full : length (put_mid at k b m) ≤ r = omega (arith, put-length p) in put_as (puts p (put_full (put_mid at k b m) r (drop n t) full)) (take-append-drop n t))
