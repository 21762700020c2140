-- Demand 2 of our calls. Assumes nothing.
use mathlib.Core.List.{List}
use mathlib.Core.Path.{◌≡◌}
use Prim.Native.Nat.{◌≤◌, ℕ}
use borrow.Author.Tests.{le-ltb}
use Rattle.promises.proofs.Adding.{form_adding}
use Rattle.promises.proofs.Answers.{form_context, form_heading, form_line, form_listing, form_member, form_question}
use Rattle.promises.proofs.Form.{Form, made_form}
use Rattle.promises.proofs.Loading.{load_says}
use Rattle.promises.proofs.Meaning.{depth_consequents}
use Rattle.promises.proofs.Telling.{form_depth, form_label, form_label_at, form_later, form_nogoods, form_nogoods_at}
use Rattle.promises.proofs.Withdrawing.{form_withdrawing}
use Rattle.promises.specs.Calls.{ours}
use Rattle.promises.specs.Demand2.{Demand2, Tells}
use Rattle.replies.specs.declared.Reply.TheVariants.{Done}
use Rattle.store.specs.Calls.{open_of}
use Rattle.store.specs.declared.Store.{Store}
use Rattle.theory.specs.Limits.{limits}
use Rattle.theory.specs.Stages.{Justification}
use Rattle.promises.proofs.Printing.{listed_printed, long_printed, refused_printed}

form_tells : {A M : ℕ} {H : List Justification} {s : Store} → Form A M H s → Tells ours A M H s
form_tells f = record {
  question = form_question f;
  context = form_context f;
  label = form_label f;
  nogoods = form_nogoods f;
  member = form_member f;
  line = form_line f;
  case_line = form_heading f;
  listing = form_listing f;
  depth = form_depth f;
  depth_most = depth_consequents _ _ _ _ (form_depth f);
  label_at_lem = form_label_at f;
  nogoods_at_lem = form_nogoods_at f;
  later = form_later f;
  adding = form_adding f;
  withdrawing = form_withdrawing f;
}

pub opens : (A M : ℕ) → A ≤ limits.assumptions → M ≤ limits.claims → (open_of A M).reply ≡ Done
unfolding open_of
opens A M a m = rw (le-ltb limits.assumptions A a, le-ltb limits.claims M m)

pub demand_2 : Demand2 ours
demand_2 = record {
  opens = opens;
  loads = load_says;
  tells = λ m. form_tells (made_form m);
  prints_long = long_printed;
  prints_refused = refused_printed;
  prints_listed = listed_printed;
}
