-- Replies as bytes: the forms of RESP2 (the Redis serialization protocol specification).
use Rattle.std.specs.Prelude.{ℕ, ◌+◌, List, [], ◌∷◌, ◌++◌}
use Rattle.std.specs.Fmt.{signed_decimal}
use Rattle.kv_types.specs.declared.reply.Reply.{Reply, Simple, Error, Int, Bulk, NullBulk, Array', NullArray, Row_of-Reply, end_of-Reply, more_of-Reply}
use Rattle.kv_types.specs.Request.{line_end, number_line, bulk}

abbrev pub row_length : {shape : _} → Row_of-Reply shape → ℕ
row_length end_of-Reply = 0
row_length (more_of-Reply reply replies) = 1 + row_length replies

abbrev mutual
  pub text_of : Reply → List ℕ
  text_of (Simple text) = 43 ∷ text ++ line_end
  text_of (Error text) = 45 ∷ text ++ line_end
  text_of (Int n) = 58 ∷ signed_decimal n ++ line_end
  text_of (Bulk bytes) = bulk bytes
  text_of NullBulk = 36 ∷ 45 ∷ 49 ∷ line_end
  text_of (Array' shape replies) = 42 ∷ number_line (row_length replies) ++ texts_of replies
  text_of NullArray = 42 ∷ 45 ∷ 49 ∷ line_end

  pub texts_of : {shape : _} → Row_of-Reply shape → List ℕ
  texts_of end_of-Reply = []
  texts_of (more_of-Reply reply replies) = text_of reply ++ texts_of replies
