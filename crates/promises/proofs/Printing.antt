-- What is printed of a file, by what loading it answers; and of two files that say the same. Assumes nothing.
use mathlib.Core.Bool.{Bool, true}
use mathlib.Core.List.{List}
use mathlib.Core.Logic.{◌⊎◌, ⊎_elim}
use mathlib.Core.Path.{◌∙◌, ◌≡◌, ap, ap₂, sym}
use Prim.Native.Nat.{◌<◌, ◌≤◌, ℕ}
use lib.ListN.{length}
use borrow.Author.Tests.{eqb-true, le-ltb, lt-ltb}
use Rattle.casefile.specs.Load.{load_of}
use Rattle.lent.specs.Lent.{fitted}
use Rattle.lines.specs.Lines.{refusal_text}
use Rattle.listing.proofs.Loaded.{loaded_right}
use Rattle.listing.specs.Listing.{listed_of, listing_of, listing_text, loaded_text}
use Rattle.replies.proofs.Laws.{zero_done}
use Rattle.replies.specs.Replies.{number_of}
use Rattle.replies.specs.declared.Reply.{Reply}
use Rattle.replies.specs.declared.Reply.TheVariants.{Done, Long}
use Rattle.store.specs.Calls.{is_done}
use Rattle.store.specs.Shape.{right_shape}
use Rattle.store.specs.declared.Store.{Store}
use Rattle.theory.proofs.Lists.{not_so}
use Rattle.theory.specs.Limits.{file_bytes}
use Rattle.theory.specs.Lists.{choose}

pub long_printed : (bytes out : List ℕ) → file_bytes < length bytes → fitted (listing_of bytes) out ≡ fitted (refusal_text Long 0) out
unfolding listing_of
long_printed bytes out h = ap (λ (b : Bool). fitted (choose b (refusal_text Long 0) (loaded_text (load_of bytes))) out) (lt-ltb file_bytes (length bytes) h)

module _ (bytes out : List ℕ) (few : length bytes ≤ file_bytes) where
  text_loaded : listing_of bytes ≡ loaded_text (load_of bytes)
  unfolding listing_of
  text_loaded = ap (λ (b : Bool). choose b (refusal_text Long 0) (loaded_text (load_of bytes))) (le-ltb file_bytes (length bytes) few)

  pub refused_printed : ((load_of bytes).reply ≡ Done → ⊥) → fitted (listing_of bytes) out ≡ fitted (refusal_text (load_of bytes).reply (load_of bytes).«record») out
  unfolding loaded_text
  refused_printed n =
      ap (λ (t : List ℕ). fitted t out) text_loaded
      ∙ ap (λ (b : Bool). fitted (choose b (listing_text (load_of bytes).store) (refusal_text (load_of bytes).reply (load_of bytes).«record»)) out)
      (not_so (is_done (load_of bytes).reply) (λ d. n (zero_done (load_of bytes).reply (eqb-true (number_of (load_of bytes).reply) 0 d))))

  pub listed_printed : (load_of bytes).reply ≡ Done → fitted (listing_of bytes) out ≡ listed_of (load_of bytes).store out
  unfolding loaded_text listed_of
  listed_printed d =
      let s : Store = (load_of bytes).store in
      ap (λ (t : List ℕ). fitted t out) text_loaded
      ∙ ap (λ (r : Reply). fitted (choose (is_done r) (listing_text s) (refusal_text (load_of bytes).reply (load_of bytes).«record»)) out) d
      ∙ shaped s (loaded_right bytes (ap number_of d)).right
    where
      shaped : (s : Store) → right_shape s ≡ true → fitted (listing_text s) out ≡ listed_of s out
      shaped s r = rw r

-- two files of one answer, and of one record where it is a refusal
pub printed_same : (bytes others out : List ℕ) → length bytes ≤ file_bytes → length others ≤ file_bytes → (load_of bytes).reply ≡ (load_of others).reply → (load_of bytes).store ≡ (load_of others).store
    → ((load_of bytes).reply ≡ Done) ⊎ ((load_of bytes).«record» ≡ (load_of others).«record») → fitted (listing_of bytes) out ≡ fitted (listing_of others) out
unfolding loaded_text
printed_same bytes others out few less e k w =
    ap (λ (t : List ℕ). fitted t out) (text_loaded bytes out few)
    ∙ ⊎_elim
    (λ (d : (load_of bytes).reply ≡ Done).
    ap (λ (r : Reply). fitted (choose (is_done r) (listing_text (load_of bytes).store) (refusal_text (load_of bytes).reply (load_of bytes).«record»)) out) d
    ∙ ap (λ (s : Store). fitted (listing_text s) out) k
    ∙ sym (ap (λ (r : Reply). fitted (choose (is_done r) (listing_text (load_of others).store) (refusal_text (load_of others).reply (load_of others).«record»)) out) (sym e ∙ d)))
    (λ (q : (load_of bytes).«record» ≡ (load_of others).«record»).
    ap (λ (s : Store). fitted (choose (is_done (load_of bytes).reply) (listing_text s) (refusal_text (load_of bytes).reply (load_of bytes).«record»)) out) k
    ∙ ap₂ (λ (r : Reply) (n : ℕ). fitted (choose (is_done r) (listing_text (load_of others).store) (refusal_text r n)) out) e q)
    w
    ∙ sym (ap (λ (t : List ℕ). fitted t out) (text_loaded others out less))
