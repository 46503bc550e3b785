-- What is known inside of an open parenthesis before the next operand: `~` binds first, then `/\`, then `\/`.
use Rattle.std.specs.Prelude.{Bool, true, false, not, Option, Some, None}
use Rattle.shm_conditions.specs.Conditions.{Condition, Not, Both, Either}

-- the alternatives before the one that is being read, the operands that this one has so far, and whether the next is negated
pub record Level : Type 0 where
  pub any : Option Condition
  pub all : Option Condition
  pub negated : Bool

abbrev pub no_level : Level
no_level = record { any = None; all = None; negated = false }

abbrev pub negate : Level → Level
negate l = record l { negated = not l.negated }

abbrev pub signed : Bool → Condition → Condition
signed false c = c
signed true c = Not c

abbrev pub both_with : Option Condition → Condition → Condition
both_with None c = c
both_with (Some a) c = Both a c

abbrev pub either_with : Option Condition → Condition → Condition
either_with None c = c
either_with (Some a) c = Either a c

-- the alternative that ends with this operand
abbrev pub all_with : Level → Condition → Condition
all_with l c = both_with l.all (signed l.negated c)

-- all alternatives, of which the last ends with this operand
abbrev pub any_with : Level → Condition → Condition
any_with l c = either_with l.any (all_with l c)

-- `/\` and `\/` after an operand
abbrev pub and_after : Level → Condition → Level
and_after l c = record { any = l.any; all = Some (all_with l c); negated = false }

abbrev pub or_after : Level → Condition → Level
or_after l c = record { any = Some (any_with l c); all = None; negated = false }
