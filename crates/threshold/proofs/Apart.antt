-- Nothing is lost at the door: each answer that crossed reads back. Assumes nothing.
use lib.ListN.{length}
use Rattle.across.specs.Across.{found_by, plainly_by, reasoned_by, wrote_by}
use Rattle.across.specs.declared.Told.{Told}
use Rattle.listing.specs.Listing.{listing_of}
use Rattle.promises.specs.Calls.{ours}
use Rattle.replies.specs.Replies.{number_of}
use Rattle.threshold.proofs.Back.{answer_of, by_back, file_back, fitted_back, found_of, heading_back, line_back, listed_back, loaded, made, member_back, plain_from, plainly_back, question_back, replied_back, reply_of, stages_back, written_of}
use Rattle.threshold.proofs.Barely.{bares}
use Rattle.threshold.specs.Crossing.{ToldApart}

pub apart : ToldApart ours
apart = record {
  made = made;
  loaded = loaded;
  questions = λ s t n m E F. by_back reasoned_by answer_of _ _ (question_back s n E) (question_back t m F);
  contexts = λ s t E F out into. by_back number_of (λ k. reply_of k 0) _ _ (replied_back s E (length out)) (replied_back t F (length into));
  members = λ s t n m i j. by_back found_by found_of _ _ (member_back s n i) (member_back t m j);
  lines = λ s t n m out into. by_back wrote_by written_of _ _ (line_back s n out) (line_back t m into);
  firsts = λ s t out into. by_back wrote_by written_of _ _ (heading_back s out) (heading_back t into);
  listings = λ s t out into. by_back wrote_by written_of _ _ (listed_back s out) (listed_back t into);
  plainlies = λ s t n m E F. by_back plainly_by (λ (r : Told). plain_from r.reply r.value) _ _ (plainly_back s n E) (plainly_back t m F);
  plain_contexts = λ s t E F out into. by_back number_of (λ k. reply_of k 0) _ _ (replied_back s E (length out)) (replied_back t F (length into));
  stages = λ s t E F out into. by_back wrote_by written_of _ _ (stages_back s E out) (stages_back t F into);
  files = λ s t out into. by_back wrote_by written_of _ _ (file_back s out) (file_back t into);
  bares = bares;
  prints = λ bytes others out into. by_back wrote_by written_of _ _ (fitted_back (listing_of bytes) out) (fitted_back (listing_of others) into);
}
