-- The listing of a table is short.
use Prim.Native.Nat.{ℕ, ◌≤◌}
use mathlib.Core.Path.{◌≡◌, ◌∙◌}
use mathlib.Core.List.{List}
use native.Mathlib.Omega.{arith}
use lib.Dec.{leb, eqb}
use lib.ListN.{length}
use borrow.Author.Tests.{eqb-true, le-leb}
use Rattle.lists.proofs.Tests.{by_cases}
use Rattle.admission.specs.Admission.{plan_refusal}
use Rattle.planning.specs.Plan.{plan_of}
use Rattle.soundness.proofs.Taken.{plan_number}
use Rattle.soundness.proofs.PlannedSound.{plan_sound_lem}
use Rattle.soundness.proofs.PlannedShape.{started_plan}
use Rattle.listing.specs.Listing.{listing_text}
use Rattle.listing.specs.Listed.{listing_limit, listed_whole, plan_listed, table_listed}
use Rattle.listing.proofs.Fits.{listing_length}

module _ (m : ℕ) (xs : List ℕ) where
  -- that of a table that is taken
  pub taken_length : (plan_refusal m xs).no ≡ 0 → length (listing_text (plan_of m xs).plan) ≤ listing_limit
  taken_length t = listing_length (plan_of m xs).plan (started_plan m xs (plan_number m xs ∙ t)) (plan_sound_lem m xs t)

  -- so the length that is answered is small, refused or not
  pub table_length : (room : ℕ) → (table_listed m xs room).length ≤ listing_limit
  unfolding table_listed plan_listed
  table_length room =
      by_cases (eqb (plan_refusal m xs).no 0)
      (λ e. by_cases (leb (length (listing_text (plan_of m xs).plan)) room)
      (λ h. rw (e, h) (taken_length (eqb-true (plan_refusal m xs).no 0 e)))
      (λ h. rw (e, h) (omega arith)))
      (λ e. rw e (omega arith))

  -- and in a buffer of so many bytes a table that is taken is never refused by 14
  pub table_whole : (plan_refusal m xs).no ≡ 0 → (room : ℕ) → listing_limit ≤ room → table_listed m xs room
      ≡ listed_whole (length (listing_text (plan_of m xs).plan))
  unfolding table_listed plan_listed
  table_whole t room h = rw (t, le-leb (length (listing_text (plan_of m xs).plan)) room (omega (arith, taken_length t)))
