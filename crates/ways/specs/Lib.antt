pub mod ByteWays
