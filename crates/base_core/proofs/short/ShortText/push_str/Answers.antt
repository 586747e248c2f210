use Rattle.std.proofs.Common.{◌≡◌, ◌∙◌, ◌+◌, ◌-◌, length, sym, ap, arith, length-take-le}
use Rattle.std.proofs.lemmas.Slice.{take-put_mid}
use Rattle.std.proofs.lemmas.Str.{IsUtf8-append}
use Rattle.base_core.proofs.short.ShortText.push_str.Goals as goal

pub invariant_of-self : goal.invariant_of-self
invariant_of-self c =
    let inside = c.self.inside in
    let all = inside.len + length c.args.more.now in
    let more : c.copy_from_slice.new.self ≡ c.args.more.now = c.copy_from_slice.ensures.after ∙ c.as_bytes.ensures.value in
    let front = take-put_mid inside.len (all - inside.len) inside.bytes c.copy_from_slice.new.self all (ap (λ bytes. inside.len + length bytes) (sym more)) (omega arith) in
    let old : inside.len ≡ length c.args.self.now =
    sym (length-take-le inside.len inside.bytes (omega arith)) ∙ ap length c.self.view_is in
    (omega (arith, old, c.requires), rw (front, more) (IsUtf8-append _ _ c.self.invariant.1 c.utf8.more))
