-- Internal: what the machine's frames make of the answer of the part that is being run.
use Rattle.std.specs.Prelude.{ℕ, true, false, List, [], ◌∷◌, ◌++◌, length, drop, Some, None}
use Rattle.core_tree.specs.declared.program.Maker.{Maker}
use Rattle.core_tree.specs.declared.program.Program.{Program}
use Rattle.heap_arena.specs.declared.cell.Cell.TheVariants as value
use Rattle.heap_arena.specs.Heap.{Value}
use Rattle.evaluation.specs.declared.outcome.Outcome.{Outcome}
use Rattle.evaluation.specs.declared.outcome.Outcome.TheVariants as outcome
use Rattle.evaluation.specs.declared.place.Place.{Place}
use Rattle.evaluation.specs.World.{Answer, Run, gives, value_then, normal_then, ◌>>=◌, ◌>>◌}
use Rattle.evaluation.specs.Values.{unary_value, binary_value, update_value, concatenated, text_length, text_equals}
use Rattle.evaluation.specs.Objects.{computed, read_place, write_local, write_cell, write_place, with_field, with_element, array_length, new_array, cast, is_instance}
use Rattle.evaluation.specs.Calls.{Parts, Loop, block, arguments, invoke, dispatch, construct, initialise, initialise_class, returned, finished, leave}
use Rattle.evaluation.specs.Evaluate.{choose}
use Rattle.evaluation.specs.Execute.{prints, print_value, throw, keeping, finally, update_place, after_body, turn, catching}
use Rattle.std.specs.Option.{option_map_or}
use Rattle.interpreter.specs.declared.frame.ValueFrame.{ValueFrame}
use Rattle.interpreter.specs.declared.frame.ValueFrame.TheVariants as on
use Rattle.interpreter.specs.declared.frame.PlaceUse.{PlaceUse}
use Rattle.interpreter.specs.declared.frame.PlaceUse.TheVariants as place_use
use Rattle.interpreter.specs.declared.frame.Callee.{Callee}
use Rattle.interpreter.specs.declared.frame.Callee.TheVariants as callee
use Rattle.interpreter.specs.declared.frame.CallFrame.{CallFrame}
use Rattle.interpreter.specs.declared.frame.CallFrame.TheVariants as call
use Rattle.interpreter.specs.declared.frame.LoopParts.{LoopParts}
use Rattle.interpreter.specs.declared.frame.LoopParts.TheVariants as parts
use Rattle.interpreter.specs.declared.frame.LoopFrame.{LoopFrame}
use Rattle.interpreter.specs.declared.frame.LoopFrame.TheVariants as loop
use Rattle.interpreter.specs.declared.frame.CallEnd.{CallEnd}
use Rattle.interpreter.specs.declared.frame.CallEnd.TheVariants as end
use Rattle.interpreter.specs.declared.frame.NormalFrame.{NormalFrame}
use Rattle.interpreter.specs.declared.frame.NormalFrame.TheVariants as normal
use Rattle.interpreter.specs.declared.frame.PlainFrame.{PlainFrame}
use Rattle.interpreter.specs.declared.frame.PlainFrame.TheVariants as plain
use Rattle.interpreter.specs.declared.frame.Frame.{Frame}
use Rattle.interpreter.specs.declared.frame.Frame.TheVariants as frame
use Rattle.interpreter.specs.declared.frame.Focus.{Focus}
use Rattle.interpreter.specs.declared.frame.Focus.TheVariants as focus

-- the loop of the reference evaluation
abbrev pub loop_of : LoopParts → Loop
loop_of (parts.While e s) = record { test = Some e.now; updates = []; body = s.now }
loop_of (parts.For test updates s) = record { test = test.now; updates = updates.now; body = s.now }

-- what is done with a place
abbrev pub at_place : Program → Parts → PlaceUse → Place → Run
at_place p part place_use.Read = read_place
at_place p part (place_use.Write v) = λ place. write_place p place v
at_place p part (place_use.Update op e) = update_place p part op e.now

-- what a callee does with its arguments
abbrev pub called_with : Program → Parts → Callee → List Value → Run
called_with p part (callee.Static m) args = invoke p part m None args
called_with p part (callee.Chosen selector v) args = dispatch p part selector v args
called_with p part (callee.Super m this) args = invoke p part m this args
called_with p part (callee.New k o) args =
    construct p part (length p.classes) k o args >> gives (outcome.Value (value.Ref o))
called_with p part (callee.Parent k o levels) args = construct p part levels k o args

-- what is done with a value
abbrev pub used : Program → Parts → ValueFrame → Value → Run
used p part (on.Field at) o = with_field p o at read_place
used p part on.Length a = array_length p a
used p part (on.ElementIndex e) a = part.expr e.now >>= (λ i. with_element p a i read_place)
used p part (on.Element a) i = with_element p a i read_place
used p part on.TextLength s = computed p (text_length s)
used p part (on.EqualsRight e) s = part.expr e.now >>= (λ t. computed p (text_equals s t))
used p part (on.Equals s) t = computed p (text_equals s t)
used p part (on.NewArray t) n = new_array p t.now n
used p part (on.Unary op) x = computed p (unary_value op x)
used p part (on.BinaryRight op e) x = part.expr e.now >>= (λ y. computed p (binary_value op x y))
used p part (on.Binary op x) y = computed p (binary_value op x y)
used p part (on.AndRight e) x = choose x (part.expr e.now) (gives (outcome.Value (value.Bool false)))
used p part (on.OrRight e) x = choose x (gives (outcome.Value (value.Bool true))) (part.expr e.now)
used p part (on.Cond e f) x = choose x (part.expr e.now) (part.expr f.now)
used p part (on.Cast t) v = cast p t.now v
used p part (on.Is t) v = is_instance p t.now v
used p part (on.ConcatRight e) x = part.expr e.now >>= (λ y. computed p (concatenated x y))
used p part (on.Concat x) y = computed p (concatenated x y)
used p part (on.WriteLocal at) v = write_local at v
used p part (on.AssignField at e) o = part.expr e.now >>= (λ v. with_field p o at (λ place. write_place p place v))
used p part (on.WriteField o at) v = with_field p o at (λ place. write_place p place v)
used p part (on.AssignIndex e f) a =
    part.expr e.now >>= (λ i. part.expr f.now >>= (λ v. with_element p a i (λ place. write_place p place v)))
used p part (on.AssignElement a e) i =
    part.expr e.now >>= (λ v. with_element p a i (λ place. write_place p place v))
used p part (on.WriteElement a i) v = with_element p a i (λ place. write_place p place v)
used p part (on.UpdateField at op e) o = with_field p o at (update_place p part op e.now)
used p part (on.UpdateIndex f op e) a =
    part.expr f.now >>= (λ i. with_element p a i (update_place p part op e.now))
used p part (on.UpdateElement a op e) i = with_element p a i (update_place p part op e.now)
used p part (on.Update op x place) y = computed p (update_value op x y) >>= (λ v. write_place p place v)
used p part on.Discard v = gives outcome.Normal
used p part (on.Print line) v = print_value line v
used p part (on.If s other) x = choose x (part.stmt s.now) (option_map_or part.stmt other.now (gives outcome.Normal))
used p part (on.LoopTest l) x =
    choose x (λ w. after_body p part (loop_of l) (part.stmt (loop_of l).body w)) (gives outcome.Normal)
used p part on.Return v = gives (outcome.Return (Some v))
used p part on.Throw v = throw p v
used p part (on.WriteCell o at) v = write_cell o at v

-- what is done with a value on the way to a call
abbrev pub passed : Program → Parts → CallFrame → Value → Run
passed p part (call.Receiver selector es) v = arguments p part es.now [] (called_with p part (callee.Chosen selector v))
passed p part (call.Argument c es got) v = arguments p part es.now (got ++ v ∷ []) (called_with p part c)

-- what a loop makes of the answer of a part
abbrev pub repeated : Program → Parts → LoopFrame → Answer → Answer
repeated p part (loop.Body l) = after_body p part (loop_of l)
repeated p part (loop.Updates l) = normal_then (part.loop (loop_of l))

-- how a call ends where its body ends so
abbrev pub ended : CallEnd → Outcome → Outcome
ended (end.Method t) = returned t.now
ended end.Constructor = finished

-- what is left of a constructor after its superclass
abbrev pub built : Program → Parts → ℕ → Maker → Run
built p part o maker = initialise_class p part o maker.owner >> block p part maker.body

-- what is done after Normal
abbrev pub followed : Program → Parts → NormalFrame → Run
followed p part (normal.Rest ss) = block p part ss.now
followed p part (normal.FirstTurn l) = turn p part (loop_of l)
followed p part (normal.New o) = gives (outcome.Value (value.Ref o))
followed p part (normal.Parent o maker) = built p part o maker.now
followed p part (normal.Fields o c next fields) = initialise p part o c next (drop next fields.now)

-- what is done with any outcome
abbrev pub plainly : Program → Parts → PlainFrame → Answer → Answer
plainly p part (plain.Leave e this locals) = leave (ended e) this locals
plainly p part (plain.Catching ks) = catching p part ks.now
plainly p part (plain.Finally s) = finally (part.stmt s.now)
plainly p part (plain.Finished o) = keeping o

-- what a frame makes of an answer
abbrev pub resumed : Program → Parts → Frame → Answer → Answer
resumed p part (frame.Value x) = value_then (used p part x)
resumed p part (frame.Call x) = value_then (passed p part x)
resumed p part (frame.Loop x) = repeated p part x
resumed p part (frame.Normal x) = normal_then (followed p part x)
resumed p part (frame.Plain x) = plainly p part x

-- what frames from the top make of an answer, all at one depth
abbrev pub stacked : Program → Parts → List Frame → Answer → Answer
stacked p part [] a = a
stacked p part (x ∷ xs) a = stacked p part xs (resumed p part x a)

-- what the part does before which the machine stands
abbrev pub focused : Program → Parts → Focus → Run
focused p part (focus.Expr e) = part.expr e.now
focused p part (focus.Stmt s) = part.stmt s.now
focused p part (focus.Loop l) = part.loop (loop_of l)
focused p part (focus.Construct k o args levels) = construct p part levels k o args
focused p part (focus.Print bytes) = prints bytes.items
focused p part (focus.Answer o) = gives o
