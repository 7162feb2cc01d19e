-- The parts of a protected object, one after another.
use Rattle.std.proofs.Common.{◌≡◌, ◌∙◌, ◌++◌, ℕ, List, string_bytes, append_assoc}
use Rattle.std.specs.Prelude.{codes, decimal}
use Rattle.std.proofs.lemmas.Result.{IfOk-weaker}
use Rattle.rp_bind_local.specs.Objects.{bodies_text, components_text, declarations_text, unit_name}
use Rattle.rp_bind_local.proofs.Adding.{after_five, after_three, pushed}
use Rattle.rp_bind_local.proofs.objects.add_object.Goals as goal

regrouped : (t p n x c y d q m e b i f s : List ℕ) → t ++ ((p ++ (n ++ ((x ++ (c ++ y)) ++ (d ++ q)))) ++ ((m ++ (e ++ (n ++ (b ++ n)))) ++ (i ++ (f ++ (e ++ (n ++ s))))))
    ≡ t ++ (p ++ (n ++ (x ++ (c ++ (y ++ (d ++ (q ++ (m ++ (e ++ (n ++ (b ++ (n ++ (i ++ (f ++ (e ++ (n ++ s))))))))))))))))
regrouped t p n x c y d q m e b i f s = simp append_assoc

pub returns : goal.returns
returns c =
    let text = string_bytes c.args.text.now in
    let object = c.args.declaration.now in
    let entries = c.args.object.now.operations.now.entries in
    let name = unit_name c.args.object.now.name.now in
    let before = codes "\n   protected " in
    let with_priority = codes "\n     with Priority => " in
    let ceiling = decimal object.ceiling in
    let is_it = codes "\n   is\n" in
    let declarations = declarations_text object entries in
    let private_part = codes "   private\n" in
    let components = components_text object in
    let end_of = codes "   end " in
    let body_of = codes ";\n\n   protected body " in
    let is_body = codes " is\n" in
    let bodies = bodies_text object entries in
    let semicolon = codes ";\n" in
    let first = after_five text before name (with_priority ++ (ceiling ++ is_it)) declarations private_part c.in_ok-push_str.ensures.bytes c.in_ok-add_object_name.ensures c.in_ok-write.ensures.bytes c.in_ok-add_declarations.ensures c.in_ok-push_str-2.ensures.bytes in
    let second = after_five (string_bytes c.push_str-2.new.self) components end_of name body_of name c.in_ok-add_components.ensures c.in_ok-push_str-3.ensures.bytes c.in_ok-add_object_name-2.ensures c.in_ok-push_str-4.ensures.bytes c.in_ok-add_object_name-3.ensures in
    IfOk-weaker c.push_str-7.result _ _
    (λ r last. after_three text (before ++ (name ++ ((with_priority ++ (ceiling ++ is_it)) ++ (declarations ++ private_part)))) (components ++ (end_of ++ (name ++ (body_of ++ name)))) (is_body ++ (bodies ++ (end_of ++ (name ++ semicolon)))) first second
    (after_five (string_bytes c.add_object_name-3.new.text) is_body bodies end_of name semicolon c.in_ok-push_str-5.ensures.bytes c.in_ok-add_bodies.ensures c.in_ok-push_str-6.ensures.bytes c.in_ok-add_object_name-4.ensures last)
    ∙ regrouped text before name with_priority ceiling is_it declarations private_part components end_of body_of is_body bodies semicolon)
    (pushed c.push_str-7.result (string_bytes c.add_object_name-4.new.text) semicolon (string_bytes c.push_str-7.new.self) c.push_str-7.ensures.bytes)
