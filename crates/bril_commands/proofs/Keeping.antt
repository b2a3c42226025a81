-- Passes that stay as they are, or mean the same.
use Rattle.std.proofs.Common.{Bool, true, false, List, refl, sym, subst}
use Rattle.pass_law.proofs.Same.{AllSame-refl}
use Rattle.pass_law.specs.Chains.{AllSame}
use Rattle.pass_law.specs.Meaning.{Meaning}
use Rattle.bril_commands.specs.Table.{Keeps}

-- every command may keep them
pub kept : {B : Type 0} (meaning : B → Meaning) (by_list : Bool) (passes : List B) → Keeps meaning by_list passes passes
kept meaning false passes = refl
kept meaning true passes = AllSame-refl meaning passes

-- after every command they mean the same
pub Keeps-same : {B : Type 0} (meaning : B → Meaning) (by_list : Bool) (before after : List B) → Keeps meaning by_list before after → AllSame meaning before after
Keeps-same meaning false before after keeps = subst (λ passes. AllSame meaning before passes) (sym keeps) (AllSame-refl meaning before)
Keeps-same meaning true before after keeps = keeps
