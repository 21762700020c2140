-- What a right shape of lists says, piece by piece. Assumes nothing.
use mathlib.Core.Bool.{Bool, ◌&&◌, true}
use mathlib.Core.List.{List}
use mathlib.Core.Path.{◌≡◌}
use Prim.Native.Nat.{◌*◌, ◌+◌, ◌<◌, ◌≤◌, ℕ}
use native.Mathlib.Omega.{arith}
use lib.Dec.{eqb, leb}
use lib.ListN.{drop, get_or, length, length-take, take}
use borrow.Author.Tests.{le-leb, leb-true}
use Rattle.rules.proofs.Entries.{places}
use Rattle.shape.specs.Shape.{apart, label_right, labels_right, listed, lists_right}
use Rattle.stages.specs.declared.Lists.{Lists}
use Rattle.theory.proofs.Listing.{below_elim, below_intro}
use Rattle.theory.proofs.Lists.{all_elim, all_intro, and_intro, and_left, and_right}
use Rattle.theory.specs.Limits.{limits}
use Rattle.theory.specs.Lists.{all_of, numbers_below, sorted_by}
use Rattle.theory.specs.Sets.{in_range}

pub record Listed (A count : ℕ) (places : List ℕ) : Type 0 where
  pub few : count ≤ length places
  pub sorted : sorted_by apart (take count places) ≡ true
  pub low : all_of (in_range A) (take count places) ≡ true
  pub spare : all_of (eqb 0) (drop count places) ≡ true

pub listed_elim : (A count : ℕ) (places : List ℕ) → listed A count places ≡ true → Listed A count places
unfolding listed
listed_elim A count places h =
    let p : Bool = leb count (length places) in
    let q : Bool = sorted_by apart (take count places) in
    let r : Bool = all_of (in_range A) (take count places) in
    let s : Bool = all_of (eqb 0) (drop count places) in
    let qrs = and_right p (q && (r && s)) h in
    let rs = and_right q (r && s) qrs in
    record { few = leb-true count (length places) (and_left p (q && (r && s)) h); sorted = and_left q (r && s) qrs; low = and_left r s rs; spare = and_right r s rs }

pub listed_intro : (A count : ℕ) (places : List ℕ) → Listed A count places → listed A count places ≡ true
unfolding listed
listed_intro A count places l = and_intro (le-leb count (length places) l.few) (and_intro l.sorted (and_intro l.low l.spare))

pub record Shaped (l : Lists) (A N : ℕ) : Type 0 where
  pub depth : l.depth ≤ limits.numbers + 1
  pub label : (i : ℕ) → i < limits.numbers → Listed A (get_or l.sizes i 0) (take limits.label (drop (limits.label * i) l.members))
  pub spare : all_of (eqb 0) (drop N l.sizes) ≡ true
  pub nogoods : Listed A l.count l.nogoods

pub lists_elim : (l : Lists) (A N : ℕ) → lists_right l A N ≡ true → Shaped l A N
unfolding lists_right labels_right
lists_elim l A N h =
    let p : Bool = leb l.depth (limits.numbers + 1) in
    let q : Bool = all_of (label_right A l.sizes l.members) (numbers_below limits.numbers) in
    let r : Bool = all_of (eqb 0) (drop N l.sizes) in
    let s : Bool = listed A l.count l.nogoods in
    let qrs = and_right p ((q && r) && s) h in
    let qr = and_left (q && r) s qrs in
    record {
      depth = leb-true l.depth (limits.numbers + 1) (and_left p ((q && r) && s) h);
      label = λ i k. listed_elim A (get_or l.sizes i 0) (take limits.label (drop (limits.label * i) l.members)) (all_elim (label_right A l.sizes l.members) (and_left q r qr) (below_intro limits.numbers k));
      spare = and_right q r qr;
      nogoods = listed_elim A l.count l.nogoods (and_right (q && r) s qrs);
    }

pub lists_intro : (l : Lists) (A N : ℕ) → Shaped l A N → lists_right l A N ≡ true
unfolding lists_right labels_right
lists_intro l A N s =
    and_intro (le-leb l.depth (limits.numbers + 1) s.depth)
    (and_intro (and_intro (all_intro (label_right A l.sizes l.members) (numbers_below limits.numbers) (λ i m. listed_intro A (get_or l.sizes i 0) (take limits.label (drop (limits.label * i) l.members)) (s.label i (below_elim limits.numbers m)))) s.spare)
    (listed_intro A l.count l.nogoods s.nogoods))

-- a label has at most twelve members
pub label_few : (l : Lists) (A N : ℕ) → Shaped l A N → (i : ℕ) → i < limits.numbers → get_or l.sizes i 0 ≤ limits.label
label_few l A N s i h = omega (arith, (s.label i h).few, length-take limits.label (drop (limits.label * i) l.members))
