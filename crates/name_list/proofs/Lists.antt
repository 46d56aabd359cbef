-- Names that are written a name a line are read back, and a list each line of which is a name is written so.
use Prim.Native.Nat.{ℕ, zero, suc, ◌+◌, ◌≤◌, ◌<◌}
use mathlib.Core.Path.{◌≡◌, refl, ap, ◌∙◌}
use mathlib.Core.Logic.{inl}
use mathlib.Core.List.{List, [], ◌∷◌, ◌++◌}
use native.Mathlib.Omega.{arith}
use borrow.Author.Tests.{lt-ltb, le-ltb, ne_eqb, ltb-false, eqb-false}
use lib.Dec.{ltb, eqb}
use lib.ListN.{length, get_or, drop, length-drop, length-append, drop_of_length-le}
use Rattle.lists.proofs.Tests.{by_cases}
use Rattle.writing.specs.Ascii.{newline}
use Rattle.scanning.specs.Lines.{unreadable_from}
use Rattle.names.specs.Name.{Name, name_at, name_end}
use Rattle.name_list.specs.Names.{names_text, names_from, names_of, bad_name}
use Rattle.names.proofs.Written.{name_written, name_read, name_ahead}

-- each name of a list has a property
abbrev pub All : (List ℕ → Type 0) → List (List ℕ) → Type 0
All P ns = (i : ℕ) → i < length ns → P (get_or ns i [])

-- of no names each is one
all_none : All Name []
all_none i h = absurd (omega arith)

-- and of one more, if it is one
all_more : (n : List ℕ) (ns : List (List ℕ)) → Name n → All Name ns → All Name (n ∷ ns)
all_more n ns p h zero k = p
all_more n ns p h (suc i) k = h i (omega arith)

-- names that stand from a place on are read from there; f is no less than their number
back : (f : ℕ) (s : List ℕ) (line at : ℕ) (ns : List (List ℕ)) → length s ≤ at + f → All Name ns → drop at s ≡ names_text ns
    → (unreadable_from (name_end s newline) f (length s) line at ≡ 0) × (names_from f s at ≡ ns)
unfolding unreadable_from names_from
back zero s line at [] h a e = (refl, refl)
back (suc f) s line at [] h a e =
    let k : length s ≤ at = omega (arith, ap length e, length-drop at s) in
    (rw (le-ltb at (length s) k) refl, rw (le-ltb at (length s) k) refl)
back zero s line at (n ∷ ns) h a e = absurd (omega (arith, ap length e, length-drop at s, length-append n (newline ∷ names_text ns)))
back (suc f) s line at (n ∷ ns) h a e =
    let r = name_written s newline at n (names_text ns) (a 0 (omega arith)) (inl (omega arith)) e in
    let k : at < length s = omega (arith, ap length e, length-drop at s, length-append n (newline ∷ names_text ns)) in
    let z : name_end s newline at ≡ 0 → ⊥ = λ q. omega (arith, q, r.1) in
    let b = back f s (line + 1) (at + length n + 1) ns (omega arith) (λ i p. a (suc i) (omega arith)) r.2 in (
      rw (lt-ltb at (length s) k, ne_eqb _ 0 z, r.1) b.0,
      rw (lt-ltb at (length s) k, ne_eqb _ 0 z, r.1, r.0) (ap (λ (l : List (List ℕ)). n ∷ l) b.1),
    )

-- what is written is read back
pub names_back : (ns : List (List ℕ)) → All Name ns → (bad_name (names_text ns) ≡ 0) × (names_of (names_text ns) ≡ ns)
names_back ns a = back (length (names_text ns)) (names_text ns) 1 0 ns (omega arith) a refl

-- a text each line of which is a name, from a place on
only : (f : ℕ) (s : List ℕ) (line at : ℕ) → length s ≤ at + f → 0 < line → unreadable_from (name_end s newline) f (length s) line at ≡ 0
    → All Name (names_from f s at) × (drop at s ≡ names_text (names_from f s at))
unfolding unreadable_from names_from
only zero s line at h p e = (all_none, drop_of_length-le s {i = at} (omega arith))
only (suc f) s line at h p e =
    by_cases (ltb at (length s))
    (λ k. by_cases (eqb (name_end s newline at) 0)
    (λ q. absurd (omega (arith, p, rw (k, q) at e)))
    (λ q.
    let z = eqb-false _ 0 q in
    let r = name_read s newline at (omega arith) z in
    let b = only f s (line + 1) (name_end s newline at) (omega (arith, name_ahead s newline at z)) (omega arith) (rw (k, q) at e) in
    rw (k, q) (
      all_more (name_at s at) (names_from f s (name_end s newline at)) r.0 b.0,
      r.3 ∙ ap (λ (l : List ℕ). name_at s at ++ newline ∷ l) b.1,
    )))
    (λ k. rw k (all_none, drop_of_length-le s (ltb-false at (length s) k)))

-- so nothing else is read
pub names_only : (s : List ℕ) → bad_name s ≡ 0 → All Name (names_of s) × (s ≡ names_text (names_of s))
names_only s e = only (length s) s 1 0 (omega arith) (omega arith) e
