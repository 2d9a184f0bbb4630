-- What the check of a program and its buffer makes of the answer.
use mathlib.Core.Path.{◌≡◌, refl, sym, ap, ◌∙◌}
use Prim.Native.Nat.{ℕ, ◌*◌, ◌/◌, ◌<◌, ◌≤◌}
use native.Mathlib.Omega.{arith}
use mathlib.Core.Bool.{Bool, true, false, cond}
use mathlib.Core.List.{List}
use lib.Dec.{ltb}
use lib.ListN.{length, get_or}
use borrow.Author.Tests.{ltb-false}
use Rattle.std.specs.Prelude.{Ok, Err}
use Rattle.records.specs.declared.Fault.{Fault}
use Rattle.records.specs.declared.Refusal.TheVariants.{BadLength}
use Rattle.records.specs.Scan.{refused, accepted}
use Rattle.isa.specs.Program.{scan_of}
use Rattle.isa.proofs.Programs.{program-whole}
use Rattle.text.specs.Text.{Put}
use Rattle.text.proofs.Puts.{put-into}
use Rattle.listing.specs.Listing.{listing, room, checked, Lists}
use Rattle.listing.proofs.Lengths.{listing_short}

module _ (p out : List ℕ) where
  pub lists_none : {f : Fault} → Err f ≡ checked p (length out) → Lists p out (Err f) out
  lists_none e = record { answer = rw (sym e) refl; output = rw (sym e) refl }

  module _ (e : accepted ≡ checked p (length out)) where
    passed : (room * (length p / 8) ≤ length out) × (scan_of p ≡ accepted)
    unfolding checked
    passed = go (ltb (length out) (room * (length p / 8))) refl (sym e)
      where
        go : (t : Bool) → ltb (length out) (room * (length p / 8)) ≡ t → cond t (refused BadLength 0) (scan_of p) ≡ accepted
            → (room * (length p / 8) ≤ length out) × (scan_of p ≡ accepted)
        go true f g = cc
        go false f g = (ltb-false (length out) (room * (length p / 8)) f, g)

    pub accepted_few : length p ≤ 8192
    accepted_few = (program-whole p passed.1).few

    pub lists_all : {n : ℕ} {b out' : List ℕ} → ((i : ℕ) → get_or p i 0 < 256) → Put out 0 (listing p) n b → out' ≡ b → Lists p out (Ok n) out'
    lists_all small q same =
        let enough = passed.0 in
        let short = listing_short p accepted_few small in
        let whole = put-into q (omega arith) in
        record { answer = rw (sym e) (ap (λ (n : ℕ). Ok n) whole.0); output = rw (sym e) (same ∙ whole.1) }
