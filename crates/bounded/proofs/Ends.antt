-- The end of a bounded list.
use Rattle.std.proofs.Common.{◌≡◌, ℕ, ◌++◌, Some, None, Option, sym, ◌∙◌, append-nil}
use Rattle.std.specs.Option.{option_to_list, IfNone}
use Rattle.bounded.specs.AtMost.{AtMost, same_items}

-- where nothing came off, the list is the same
pub none_off : {T : Type 0} {most : ℕ} (x : Option T) (old new : AtMost T most) → old.items ≡ new.items ++ option_to_list x → IfNone x (new ≡ old)
none_off (Some x) old new e = tt
none_off None old new e = same_items new old (sym (e ∙ append-nil new.items))
