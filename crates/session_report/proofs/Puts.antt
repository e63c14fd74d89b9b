-- What a put answers and leaves, in the line of its answer.
use Rattle.std.specs.Prelude.{◌≢◌, IfOk, IfErr, OnOk, OnErr, String, string_bytes}
use Rattle.std.proofs.Common.{◌≡◌, ℕ, List, Option, Some, None, Result, Ok, Err, refl, ap, ◌∙◌}
use Rattle.std.specs.declared.alloc.AllocError.{AllocError}
use Rattle.std.specs.declared.alloc.Global.{Global}
use Rattle.tree_core.specs.declared.memory.PutError.{PutError}
use Rattle.tree_core.specs.declared.memory.PutError.TheVariants.{NoMemory}
use Rattle.tree_core.specs.declared.tree.TreeFile.{TreeFile}
use Rattle.session_core.specs.Session.{Session, after_put, put_unless}
use Rattle.session_report.specs.Lines.{dropped, line_of, put_answer, put_value}

module _ (s : Session) (path : List ℕ) (o : Option PutError) where
  answered : (put : Result ℕ PutError) → IfOk put (λ n. n ≡ dropped s path) → OnOk put (o ≡ None)
      → IfErr put (λ e. e ≢ NoMemory → o ≡ Some e) → put ≢ Err NoMemory → put ≡ put_answer s path o
  answered (Ok n) count fits refused found = rw fits (ap Ok count)
  answered (Err e) count fits refused found = rw (refused (λ is. found (ap Err is))) refl

  -- the line of a put's answer, where there is one
  pub put-line : (put : Result ℕ PutError) (r : Result (String Global) AllocError) → IfOk put (λ n. n ≡ dropped s path)
      → OnOk put (o ≡ None) → IfErr put (λ e. e ≢ NoMemory → o ≡ Some e)
      → IfOk r (λ line. string_bytes line ≡ line_of (put_value path put)) → OnOk r (put ≢ Err NoMemory)
      → IfOk r (λ line. string_bytes line ≡ line_of (put_value path (put_answer s path o)))
  put-line put (Ok line) count fits refused is found =
      is ∙ ap (λ p. line_of (put_value path p)) (answered put count fits refused found)
  put-line put (Err e) count fits refused is found = tt

  left : (u : Session) (file : TreeFile) (put : Result ℕ PutError) → OnOk put (u ≡ after_put s path file)
      → OnOk put (o ≡ None) → IfErr put (λ e. e ≢ NoMemory → o ≡ Some e) → OnErr put (u ≡ s) → put ≢ Err NoMemory
      → u ≡ put_unless s path file o
  left u file (Ok n) done fits refused same found = rw fits done
  left u file (Err e) done fits refused same found = rw (refused (λ is. found (ap Err is))) same

  -- what a put leaves, where its answer has a line
  pub put-left : (u : Session) (file : TreeFile) (put : Result ℕ PutError) (r : Result (String Global) AllocError)
      → OnOk put (u ≡ after_put s path file) → OnOk put (o ≡ None) → IfErr put (λ e. e ≢ NoMemory → o ≡ Some e)
      → OnErr put (u ≡ s) → OnOk r (put ≢ Err NoMemory) → OnOk r (u ≡ put_unless s path file o)
  put-left u file put (Ok line) done fits refused same found = left u file put done fits refused same found
  put-left u file put (Err e) done fits refused same found = tt
