-- The words of the causes for which a version of the master key serves.
use Rattle.std.specs.Prelude.{ℕ, List, codes, Option, Some, None}
use Rattle.serving_versions.specs.declared.serving.Cause.{Cause}
use Rattle.serving_versions.specs.declared.serving.Cause.TheVariants.{Protects, Active, Newest, Pending}

abbrev pub word_of : Option Cause → List ℕ
word_of None = codes "none"
word_of (Some (Protects count)) = codes "protects"
word_of (Some Active) = codes "active"
word_of (Some Newest) = codes "newest"
word_of (Some Pending) = codes "pending"
