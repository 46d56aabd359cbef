-- The answers of the call for a listing.
use Prim.Native.Nat.{ℕ, ◌+◌, ◌≤◌, ◌<◌}
use mathlib.Core.Path.{◌≡◌, sym, ap, ◌∙◌, subst⁻¹}
use mathlib.Core.Bool.{true, false}
use mathlib.Core.List.{List}
use native.Mathlib.Omega.{arith}
use lib.ListN.{length}
use borrow.Author.Tests.{le-leb, lt-leb, eq-eqb, ne_eqb}
use Rattle.writing.specs.Wrote.{Wrote}
use Rattle.writing.proofs.Wrote.{whole}
use Rattle.planning.specs.declared.Plan.{Plan}
use Rattle.dispatch.specs.declared.Record.{Record}
use Rattle.dispatch.specs.Sound.{sound_of}
use Rattle.listing.specs.Listed.{Listed}
use Rattle.listing.specs.Listing.{listing_text}
use Rattle.listing.specs.Listed.{unlisted, listed_whole, plan_listed, plan_after, listed_of, buffer_after, table_listed, table_after}
use Rattle.units.specs.Refusals.{refusal, buffer_no, unsound_no}
use Rattle.admission.specs.Admission.{plan_refusal}
use Rattle.planning.specs.Plan.{Planned}
use Rattle.planning.specs.Plan.{plan_of}
use Rattle.soundness.specs.Plan.{plan_sound}
use Rattle.soundness.proofs.PlannedSound.{plan_sound_lem}
use Rattle.soundness.proofs.Taken.{plan_number}
use Rattle.planning.proofs.Answer.{refused_is}

-- the listing does not fit, and nothing is written
pub too_long : (pl : Plan) (a : List ℕ) {need : ℕ} → need ≡ 0 + length (listing_text pl) → length a < need
    → (unlisted (refusal buffer_no 0) ≡ plan_listed pl (length a)) × (a ≡ plan_after pl a)
unfolding plan_listed plan_after
too_long pl a e h =
    let f : length a < length (listing_text pl) = omega arith in
    (rw (lt-leb (length (listing_text pl)) (length a) f), rw (lt-leb (length (listing_text pl)) (length a) f))

-- it fits, and is written
pub written : (pl : Plan) {a b : List ℕ} {k need : ℕ} → Wrote a 0 (listing_text pl) b k → need ≡ 0 + length (listing_text pl) → need ≤ length a
    → (listed_whole need ≡ plan_listed pl (length a)) × (b ≡ plan_after pl a)
unfolding plan_listed plan_after
written pl {a} {b} {k} {need} w e h =
    let f : length (listing_text pl) ≤ length a = omega arith in
    let same : need ≡ length (listing_text pl) = omega arith in
    (rw (le-leb (length (listing_text pl)) (length a) f, same), rw (le-leb (length (listing_text pl)) (length a) f) (whole w f))

-- a record that is not sound
pub unsound : (r : Record) (a : List ℕ) → sound_of r ≡ false → (unlisted (refusal unsound_no 0) ≡ listed_of r (length a)) × (a ≡ buffer_after r a)
unfolding listed_of buffer_after
unsound r a e = (rw e, rw e)

-- a sound one
pub sound : (r : Record) (a : List ℕ) {b : List ℕ} {l : Listed} → sound_of r ≡ true → l ≡ plan_listed r.plan (length a) → b ≡ plan_after r.plan a
    → (l ≡ listed_of r (length a)) × (b ≡ buffer_after r a)
unfolding listed_of buffer_after
sound r a e f g = (rw e f, rw e g)

-- a table, by planning's answer to it
module _ (m : ℕ) (xs a : List ℕ) (p : Planned) (e : p ≡ plan_of m xs) where
  number : p.refusal.no ≡ (plan_refusal m xs).no
  number = ap (λ (x : Planned). x.refusal.no) e ∙ plan_number m xs

  -- refused
  pub table_refused : (p.refusal.no ≡ 0 → ⊥) → (unlisted p.refusal ≡ table_listed m xs (length a)) × (a ≡ table_after m xs a)
  unfolding table_listed table_after
  table_refused n =
      let some : (plan_refusal m xs).no ≡ 0 → ⊥ = λ q. n (number ∙ q) in
      let z = ne_eqb (plan_refusal m xs).no 0 some in
      (rw z (ap unlisted (ap (λ (x : Planned). x.refusal) e ∙ refused_is m xs some)), rw z)

  module _ (t : p.refusal.no ≡ 0) where
    none : (plan_refusal m xs).no ≡ 0
    none = sym number ∙ t

    -- taken: its plan is sound
    pub table_sound : plan_sound p.plan ≡ true
    table_sound = subst⁻¹ (λ (x : Planned). plan_sound x.plan ≡ true) e (plan_sound_lem m xs none)

    -- and is what is listed
    pub table_taken : {b : List ℕ} {l : Listed} → l ≡ plan_listed p.plan (length a) → b ≡ plan_after p.plan a
        → (l ≡ table_listed m xs (length a)) × (b ≡ table_after m xs a)
    unfolding table_listed table_after
    table_taken f g =
        let z = eq-eqb (plan_refusal m xs).no 0 none in
        (rw z (f ∙ ap (λ (x : Planned). plan_listed x.plan (length a)) e), rw z (g ∙ ap (λ (x : Planned). plan_after x.plan a) e))
