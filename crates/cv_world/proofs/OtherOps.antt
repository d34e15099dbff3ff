-- Only PUT asks to hold a charmap.
use Rattle.std.proofs.Common.{◌≢◌, ◌==◌, ℕ, Bool, true, false, List, [], ◌∷◌, Option, Some, None}
use Rattle.std.specs.Prelude.{if◌then◌else◌}
use Rattle.cv_cache.specs.Compiled.{Compiled}
use Rattle.cv_frame.specs.Bodies.{Opening, open_of, conv_of, reset_of, u32_of, drop_of}
use Rattle.cv_frame.specs.Ops.{op_open, op_conv, op_reset, op_close, op_drop, op_bye, op_part}
use Rattle.cv_world.specs.Actions.{Action, Put}
use Rattle.cv_world.specs.Requests.{action_of, drop_action, open_action, conv_action, reset_action, close_action}
use Rattle.cv_world.specs.Requests.{bye_action}

drop_other : (name : Option (List ℕ)) (c : Compiled) → drop_action name ≢ Put c
drop_other (Some x) c e = absurd cc
drop_other None c e = absurd cc

open_other : (o : Option Opening) (c : Compiled) → open_action o ≢ Put c
open_other (Some x) c e = absurd cc
open_other None c e = absurd cc

conv_other : (fields : Option (ℕ × ℕ × List ℕ)) (c : Compiled) → conv_action fields ≢ Put c
conv_other (Some x) c e = absurd cc
conv_other None c e = absurd cc

reset_other : (fields : Option (ℕ × ℕ)) (c : Compiled) → reset_action fields ≢ Put c
reset_other (Some x) c e = absurd cc
reset_other None c e = absurd cc

close_other : (number : Option ℕ) (c : Compiled) → close_action number ≢ Put c
close_other (Some x) c e = absurd cc
close_other None c e = absurd cc

bye_other : (body : List ℕ) (c : Compiled) → bye_action body ≢ Put c
bye_other [] c e = absurd cc
bye_other (b ∷ body) c e = absurd cc

by_test : (b : Bool) (x y : Action) (c : Compiled) → x ≢ Put c → y ≢ Put c → (if b then x else y) ≢ Put c
by_test true x y c p q = p
by_test false x y c p q = q

-- no other op asks to hold a charmap
pub not_put : (code : ℕ) (body : List ℕ) (c : Compiled) → action_of code body ≢ Put c
not_put code body c =
    by_test (code == op_drop) _ _ c (drop_other (drop_of body) c) (
    by_test (code == op_open) _ _ c (open_other (open_of body) c) (
    by_test (code == op_conv) _ _ c (conv_other (conv_of body) c) (
    by_test (code == op_reset) _ _ c (reset_other (reset_of body) c) (
    by_test (code == op_close) _ _ c (close_other (u32_of body) c) (
    by_test (code == op_bye) _ _ c (bye_other body c) (
    by_test (code == op_part) _ _ c (λ e. absurd cc) (λ e. absurd cc)))))))
