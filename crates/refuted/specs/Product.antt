-- All that is shown of the product, in one. Assumes nothing.
use Rattle.promises.specs.Calls.{ours}
use Rattle.promises.specs.Once.{OnceEach}
use Rattle.promises.specs.Promises.{Promises}
use Rattle.refuted.specs.Cases.{PCases}
use Rattle.refuted.specs.Pinned.{Pinned}
use Rattle.refuted.specs.Readings.{Readings, ReadingsRefuted}
use Rattle.refuted.specs.Writing.{WritingRefuted}
use Rattle.refuted.specs.Wrong.{Refuted}

pub record Product : Type 2 where
  -- the demands, held to the compiled code; the reply table; what made stores hold; what the words mean
  pub promises : Promises ours
  -- a contract allows one answer
  pub once : OnceEach
  -- document 01's cases that are proved, in one table
  pub cases : PCases ours
  -- shared definitions by what they give
  pub pinned : Pinned ours
  -- wrong programs, and the readings that look right
  pub refuted : Refuted
  pub readings : Readings
  pub readings_refuted : ReadingsRefuted
  pub writing_refuted : WritingRefuted
