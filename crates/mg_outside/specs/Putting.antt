-- What a put may answer, and what each answer says.
use Rattle.std.specs.Prelude.{◌≡◌, ℕ, ◌≤◌, List, ◌++◌, length, take, Option, Some, None}
use Rattle.mg_outside.specs.Causes.{one_more}
use Rattle.mg_outside.specs.declared.sink.PutAnswer.{PutAnswer}
use Rattle.mg_outside.specs.declared.sink.PutAnswer.TheVariants.{Done, Failed}

-- what a sink tells that it holds, and how many puts failed
pub record SinkSeen : Type 0 where
  pub held : Option (List ℕ)
  pub faults : ℕ

-- a sink that tells what it holds gained these bytes; one that does not tell still does not
abbrev pub Gained : Option (List ℕ) → Option (List ℕ) → List ℕ → Type 0
Gained None None bytes = Unit {0}
Gained None (Some new) bytes = ⊥
Gained (Some old) None bytes = ⊥
Gained (Some old) (Some new) bytes = new ≡ old ++ bytes

-- it gained the first of the bytes, as many as count says
pub record TookFront (old new : Option (List ℕ)) (bytes : List ℕ) : Type 0 where
  pub count : ℕ
  pub within : count ≤ length bytes
  pub gained : Gained old new (take count bytes)

-- all bytes were taken, and no put failed
pub record AllPut (before now : SinkSeen) (bytes : List ℕ) : Type 0 where
  pub gained : Gained before.held now.held bytes
  pub uncounted : now.faults ≡ before.faults

-- a put failed, which is counted: the first of the bytes were taken, and nothing behind them
pub record PutFailed (before now : SinkSeen) (bytes : List ℕ) : Type 0 where
  pub front : TookFront before.held now.held bytes
  pub counted : now.faults ≡ one_more before.faults

-- bytes were put with this answer
abbrev pub Puts : PutAnswer → SinkSeen → SinkSeen → List ℕ → Type 0
Puts Done before now bytes = AllPut before now bytes
Puts Failed before now bytes = PutFailed before now bytes
