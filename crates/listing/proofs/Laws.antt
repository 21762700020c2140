-- What the calls of the listing leave, test by test. Assumes nothing.
use mathlib.Core.Bool.{true}
use mathlib.Core.List.{List}
use mathlib.Core.Path.{◌∙◌, ◌≡◌, ap, sym}
use Prim.Native.Nat.{◌<◌, ◌≤◌, ℕ}
use lib.ListN.{length}
use borrow.Author.Tests.{eq-eqb, le-ltb, lt-ltb, ne_eqb}
use Rattle.casefile.specs.Load.{load_of}
use Rattle.casefile.specs.declared.Loaded.{Loaded}
use Rattle.lent.specs.Lent.{Leaves, fitted}
use Rattle.lines.specs.Lines.{refusal_text}
use Rattle.std.proofs.Common.{Result}
use Rattle.listing.proofs.Loaded.{loaded_right}
use Rattle.listing.specs.Listing.{Prints, listing_of, listing_text, loaded_text}
use Rattle.replies.specs.Replies.{number_of}
use Rattle.replies.specs.declared.Reply.TheVariants.{Long}
use Rattle.store.specs.Shape.{right_shape}
use Rattle.theory.specs.Limits.{file_bytes}
use Rattle.replies.specs.declared.Reply.{Reply}

-- ---- the listing of a file

module _ (l : List ℕ) where
  pub text_long : file_bytes < length l → refusal_text Long 0 ≡ listing_of l
  unfolding listing_of
  text_long h = rw (lt-ltb file_bytes (length l) h)

  module _ (few : length l ≤ file_bytes) where
    pub text_refused : (number_of (load_of l).reply ≡ 0 → ⊥) → refusal_text (load_of l).reply (load_of l).«record» ≡ listing_of l
    unfolding listing_of loaded_text
    text_refused z = rw (le-ltb file_bytes (length l) few, ne_eqb (number_of (load_of l).reply) 0 z)

    pub text_done : number_of (load_of l).reply ≡ 0 → listing_text (load_of l).store ≡ listing_of l
    unfolding listing_of loaded_text
    text_done z = rw (le-ltb file_bytes (length l) few, eq-eqb (number_of (load_of l).reply) 0 z)

module _ (l out : List ℕ) where
  pub print_long : file_bytes < length l → {r : Result ℕ Reply} {after : List ℕ} → Leaves (fitted (refusal_text Long 0) out) r after → Prints l out r after
  print_long h e = e ∙ ap (λ (t : List ℕ). fitted t out) (text_long l h)

  module _ (few : length l ≤ file_bytes) (loaded : Loaded) (same : loaded ≡ load_of l) where
    number_same : number_of loaded.reply ≡ number_of (load_of l).reply
    number_same = ap (λ (r : Loaded). number_of r.reply) same

    pub print_refused : (number_of loaded.reply ≡ 0 → ⊥) → {r : Result ℕ Reply} {after : List ℕ} → Leaves (fitted (refusal_text loaded.reply loaded.«record») out) r after → Prints l out r after
    print_refused z e = e ∙ ap (λ (x : Loaded). fitted (refusal_text x.reply x.«record») out) same ∙ ap (λ (t : List ℕ). fitted t out) (text_refused l few (λ q. z (number_same ∙ q)))

    pub print_right : number_of loaded.reply ≡ 0 → right_shape loaded.store ≡ true
    print_right z = ap (λ (x : Loaded). right_shape x.store) same ∙ (loaded_right l (sym number_same ∙ z)).right

    pub print_done : number_of loaded.reply ≡ 0 → {r : Result ℕ Reply} {after : List ℕ} → Leaves (fitted (listing_text loaded.store) out) r after → Prints l out r after
    print_done z e = e ∙ ap (λ (x : Loaded). fitted (listing_text x.store) out) same ∙ ap (λ (t : List ℕ). fitted t out) (text_done l few (sym number_same ∙ z))
