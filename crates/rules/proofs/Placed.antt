-- The places in use looked through once: each in range, and before the next by its number. Assumes nothing.
use mathlib.Core.Bool.{Bool, ◌&&◌, false, true}
use mathlib.Core.List.{List, map}
use mathlib.Core.Path.{◌∙◌, ◌≡◌, ap, ap₂, refl, subst, sym}
use native.Mathlib.Decide.{dec_lt}
use Prim.Native.Nat.{◌+◌, ◌-◌, ◌<◌, ◌≤◌, ℕ}
use native.Mathlib.Omega.{arith}
use lib.ListN.{drop, get_or, length, take}
use lib.Seq.{get_or-take}
use borrow.Author.Tests.{le-ltb, lt-ltb}
use Rattle.rules.proofs.Keys.{ahead_key}
use Rattle.rules.proofs.Scan.{order_end, order_hit, order_miss}
use Rattle.rules.proofs.Steps.{and_none, beyond}
use Rattle.rules.specs.Held.{fitting, meaning, ordered}
use Rattle.rules.specs.Placing.{Bytes, key_of}
use Rattle.rules.specs.declared.Entry.{Entry}
use Rattle.theory.proofs.Places.{all_first_end, all_first_hit, all_first_miss}
use Rattle.theory.specs.Lists.{all_of}

-- what is asked of those from place i on, the order from place k on
abbrev asked : ℕ → List Entry → ℕ → ℕ → ℕ → Bool
asked N entries n i k = all_of (fitting N) (drop i (take n entries)) && ordered (drop k (map meaning (take n entries)))

-- before place j all is right, and the number of the place before it is the last that may not follow
pub record Past (N : ℕ) (entries : List Entry) (n j least : ℕ) : Type 0 where
  pub inside : j ≤ n
  pub rest : asked N entries n 0 0 ≡ asked N entries n j (j - 1)
  pub none : j ≡ 0 → least ≡ 0
  pub key : 0 < j → least ≡ key_of (get_or entries (j - 1) beyond) + 1
  pub bytes : 0 < j → Bytes (get_or entries (j - 1) beyond)
  pub fits : 0 < j → fitting N (get_or entries (j - 1) beyond) ≡ true

module _ (N : ℕ) (entries : List Entry) (n : ℕ) where
  pub past_none : Past N entries n 0 0
  past_none = record { inside = omega arith; rest = refl; none = λ e. refl; key = λ h. absurd (omega arith); bytes = λ h. absurd (omega arith); fits = λ h. absurd (omega arith) }

  module _ (room : n ≤ length entries) (j least : ℕ) (past : Past N entries n j least) where
    -- the place j, read among the first n
    abbrev this : Entry
    this = get_or (take n entries) j beyond

    pub past_out : j < n → fitting N this ≡ false → false ≡ asked N entries n 0 0
    past_out h t =
        let f : fitting N (get_or entries j beyond) ≡ false = ap (fitting N) (sym (get_or-take n entries j beyond h)) ∙ t in
        sym (past.rest ∙ ap (λ (b : Bool). b && ordered (drop (j - 1) (map meaning (take n entries)))) (all_first_miss (fitting N) entries n j beyond room h f))

    module _ (h : j < n) (t : fitting N this ≡ true) (k : ℕ) (is : k ≡ key_of this) (small : Bytes this) where
      is_this : this ≡ get_or entries j beyond
      is_this = get_or-take n entries j beyond h

      f : fitting N (get_or entries j beyond) ≡ true
      f = ap (fitting N) (sym is_this) ∙ t

      e : k ≡ key_of (get_or entries j beyond)
      e = is ∙ ap key_of is_this

      b : Bytes (get_or entries j beyond)
      b = subst Bytes is_this small

      pub past_mixed : k < least → false ≡ asked N entries n 0 0
      past_mixed low = elim (dec_lt 0 j) [
        | yes p ↦ (let order = order_miss entries n room j p h (ahead_key N (get_or entries (j - 1) beyond) (get_or entries j beyond) (past.fits p) f (past.bytes p) b ∙ le-ltb (key_of (get_or entries (j - 1) beyond)) (key_of (get_or entries j beyond)) (omega (arith, past.key p, e))) in
            sym (past.rest ∙ ap (λ (t : Bool). all_of (fitting N) (drop j (take n entries)) && t) order ∙ and_none (all_of (fitting N) (drop j (take n entries)))))
        | no p ↦ absurd (omega (arith, past.none (omega arith)))
      ]

      order_on : least ≤ k → ordered (drop (j - 1) (map meaning (take n entries))) ≡ ordered (drop (j + 1 - 1) (map meaning (take n entries)))
      order_on high = elim (dec_lt 0 j) [
        | yes p ↦ (let back : j ≡ j + 1 - 1 = omega arith in
            order_hit entries n room j p h (ahead_key N (get_or entries (j - 1) beyond) (get_or entries j beyond) (past.fits p) f (past.bytes p) b ∙ lt-ltb (key_of (get_or entries (j - 1) beyond)) (key_of (get_or entries j beyond)) (omega (arith, past.key p, e)))
            ∙ ap (λ (i : ℕ). ordered (drop i (map meaning (take n entries)))) back)
        | no p ↦ (let back : j - 1 ≡ j + 1 - 1 = omega arith in ap (λ (i : ℕ). ordered (drop i (map meaning (take n entries)))) back)
      ]

      pub past_on : least ≤ k → Past N entries n (j + 1) (k + 1)
      past_on high =
          let back : j ≡ j + 1 - 1 = omega arith in
          record {
            inside = omega arith;
            rest = past.rest ∙ ap₂ (λ (s t : Bool). s && t) (all_first_hit (fitting N) entries n j beyond room h f) (order_on high);
            none = λ z. absurd (omega arith);
            key = λ p. ap (λ (x : ℕ). x + 1) (e ∙ ap (λ (i : ℕ). key_of (get_or entries i beyond)) back);
            bytes = λ p. subst (λ (i : ℕ). Bytes (get_or entries i beyond)) back b;
            fits = λ p. sym (ap (λ (i : ℕ). fitting N (get_or entries i beyond)) back) ∙ f;
          }

    nothing : n ≡ 0 → true ≡ asked N entries n 0 0
    unfolding all_of ordered
    nothing e = sym (ap (λ (m : ℕ). asked N entries m 0 0) e)

    pub past_end : n ≤ j → true ≡ asked N entries n 0 0
    past_end h = elim (dec_lt 0 j) [
      | yes p ↦ sym (past.rest ∙ ap₂ (λ (s t : Bool). s && t) (all_first_end (fitting N) entries n j beyond room h) (order_end entries n room j p h))
      | no p ↦ nothing (omega arith)
    ]
