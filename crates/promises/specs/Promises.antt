-- What the product promises, all in one. Assumes nothing.
use Rattle.promises.specs.Calls.{Calls}
use Rattle.promises.specs.Demand1.{Demand1}
use Rattle.promises.specs.Demand2.{Demand2}
use Rattle.promises.specs.Demand3.{Demand3}
use Rattle.promises.specs.Files.{Files}
use Rattle.promises.specs.Made.{Stores}
use Rattle.promises.specs.Meaning.{Meaning}
use Rattle.promises.specs.Plain.{PlainPath}
use Rattle.promises.specs.Season.{OneByOne}
use Rattle.promises.specs.Shortest.{NothingShorter}
use Rattle.promises.specs.Standing.{AsTheyStand}
use Rattle.promises.specs.Words.{Words}

pub record Promises (C : Calls) : Type 2 where
  pub demand1 : Demand1 C
  pub demand2 : Demand2 C
  pub demand3 : Demand3 C
  pub stores : Stores C
  pub standing : AsTheyStand C
  pub meaning : Meaning
  pub words : Words
  pub shortest : NothingShorter C
  pub season : OneByOne C
  pub files : Files C
  pub plain : PlainPath C
