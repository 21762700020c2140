-- `listed` meets its contract. Assumes nothing.
use Rattle.std.proofs.Common.{◌≡◌, ◌≤◌, ◌∙◌, ap, arith, length, refl, sym}
use borrow.Author.Tests.{leb-true}
use Rattle.lent.proofs.Fits.{fitted_long}
use Rattle.listing.specs.Listing.{listing_text}
use Rattle.text.proofs.Added.{texts}
use Rattle.listing.proofs.listed.Goals as goal

pub returns : goal.returns
returns c =
    let same : listing_text c.of-page.result.store.now ≡ listing_text c.args.store = ap listing_text c.of-page.ensures in
    let room : length (listing_text c.args.store) ≤ length c.args.out.now = omega (arith, leb-true _ _ (sym c.fits.ensures ∙ c.if-not-fits.false), ap length same) in
    let whole = fitted_long (listing_text c.args.store) c.args.out.now room refl in
    grind (arith, texts, whole)
